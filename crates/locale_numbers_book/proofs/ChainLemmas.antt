-- Texts and entries along a chain, from a locale on: `specs/SelectedText.antt`.
use Rattle.std.proofs.Common.{◌≡◌, ℕ, suc, List, [], ◌∷◌, ◌++◌, map, Option, None, Some, refl, sym, ap, ◌∙◌, append_assoc}
use Rattle.std.specs.Prelude.{option_to_list}
use Rattle.std.specs.List.{filter_map}
use Rattle.std.proofs.lemmas.List.{append-nil}
use Rattle.icu_decimal_chains.specs.Chains.{chain}

-- what a list gives, a part for each element
module _ {A B : Type 0} (out : List A → List B) (part : A → List B) (none : out [] ≡ []) (more : (x : A) (xs : List A) → out (x ∷ xs) ≡ part x ++ out xs) (next : A → Option A) where
  one : (x : A) → out (x ∷ []) ≡ part x
  one x = more x [] ∙ ap (λ ys. part x ++ ys) none ∙ append-nil (part x)

  -- one part more, and the next locale
  further : (n m : ℕ) (x y : A) (done parts : List B) → n ≡ suc m → next x ≡ Some y → parts ≡ done ++ part x → parts ++ out (chain next m y) ≡ done ++ out (chain next n x)
  further n m x y done parts is step put =
      ap (λ zs. zs ++ out (chain next m y)) put
      ∙ append_assoc done (part x) (out (chain next m y))
      ∙ ap (λ zs. done ++ zs) (sym (more x (chain next m y)))
      ∙ rw (is, step) refl

  -- one part more, and no next locale
  ended : (n m : ℕ) (x : A) (done parts : List B) → n ≡ suc m → next x ≡ None → parts ≡ done ++ part x → parts ≡ done ++ out (chain next n x)
  ended n m x done parts is step put = put ∙ ap (λ zs. done ++ zs) (sym (one x)) ∙ rw (is, step) refl

  -- and no step left
  cut : (n : ℕ) (x : A) (done parts : List B) → n ≡ 0 → parts ≡ done ++ part x → parts ≡ done ++ out (chain next n x)
  cut n x done parts is put = put ∙ ap (λ zs. done ++ zs) (sym (one x)) ∙ rw is refl

-- ---- texts

module _ {A B : Type 0} (f : A → B) (next : A → Option A) where
  pub mapped_further : (n m : ℕ) (x y : A) (done parts : List B) → n ≡ suc m → next x ≡ Some y → parts ≡ done ++ f x ∷ [] → parts ++ map f (chain next m y) ≡ done ++ map f (chain next n x)
  mapped_further = further (map f) (λ x. f x ∷ []) refl (λ x xs. refl) next

  pub mapped_ended : (n m : ℕ) (x : A) (done parts : List B) → n ≡ suc m → next x ≡ None → parts ≡ done ++ f x ∷ [] → parts ≡ done ++ map f (chain next n x)
  mapped_ended = ended (map f) (λ x. f x ∷ []) refl (λ x xs. refl) next

  pub mapped_cut : (n : ℕ) (x : A) (done parts : List B) → n ≡ 0 → parts ≡ done ++ f x ∷ [] → parts ≡ done ++ map f (chain next n x)
  mapped_cut = cut (map f) (λ x. f x ∷ []) refl (λ x xs. refl) next

-- ---- entries

module _ {A B : Type 0} (g : A → Option B) where
  picked_more : (x : A) (xs : List A) → filter_map g (x ∷ xs) ≡ option_to_list (g x) ++ filter_map g xs
  picked_more x xs = by (g x) refl
    where
      by : (m : Option B) → g x ≡ m → filter_map g (x ∷ xs) ≡ option_to_list (g x) ++ filter_map g xs
      by None is = rw is refl
      by (Some y) is = rw is refl

  pub picked_further : (next : A → Option A) (n m : ℕ) (x y : A) (done parts : List B) → n ≡ suc m → next x ≡ Some y → parts ≡ done ++ option_to_list (g x)
      → parts ++ filter_map g (chain next m y) ≡ done ++ filter_map g (chain next n x)
  picked_further = further (filter_map g) (λ x. option_to_list (g x)) refl picked_more

  pub picked_ended : (next : A → Option A) (n m : ℕ) (x : A) (done parts : List B) → n ≡ suc m → next x ≡ None → parts ≡ done ++ option_to_list (g x)
      → parts ≡ done ++ filter_map g (chain next n x)
  picked_ended = ended (filter_map g) (λ x. option_to_list (g x)) refl picked_more

  pub picked_cut : (next : A → Option A) (n : ℕ) (x : A) (done parts : List B) → n ≡ 0 → parts ≡ done ++ option_to_list (g x) → parts ≡ done ++ filter_map g (chain next n x)
  picked_cut = cut (filter_map g) (λ x. option_to_list (g x)) refl picked_more
