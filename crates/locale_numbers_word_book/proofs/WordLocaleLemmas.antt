-- The locales of a chain but `und`: `specs/WordLocales.antt`.
use Rattle.std.proofs.Common.{◌≡◌, ℕ, suc, Bool, true, false, List, [], ◌∷◌, ◌++◌, filter, Option, None, Some, refl, sym, ap, ◌∙◌, append_assoc}
use Rattle.std.proofs.lemmas.List.{append-nil}
use Rattle.icu_decimal.specs.Chains.{walk}

module _ {A : Type 0} (keep : A → Bool) where
  filter_more : (x : A) (xs : List A) → filter keep (x ∷ xs) ≡ filter keep (x ∷ []) ++ filter keep xs
  filter_more x xs = by (keep x) refl
    where
      by : (b : Bool) → keep x ≡ b → filter keep (x ∷ xs) ≡ filter keep (x ∷ []) ++ filter keep xs
      by true is = rw is refl
      by false is = rw is refl

  module _ (next : A → Option A) where
    -- one locale more
    pub stepped : (n m : ℕ) (x y : A) (done now : List A) → n ≡ suc m → next x ≡ Some y → now ≡ done ++ filter keep (y ∷ [])
        → now ++ filter keep (walk next m y) ≡ done ++ filter keep (walk next n x)
    stepped n m x y done now is step put =
        ap (λ zs. zs ++ filter keep (walk next m y)) put
        ∙ append_assoc done (filter keep (y ∷ [])) (filter keep (walk next m y))
        ∙ ap (λ zs. done ++ zs) (sym (filter_more y (walk next m y)))
        ∙ rw (is, step) refl

    -- no next locale
    pub ended : (n m : ℕ) (x : A) (done : List A) → n ≡ suc m → next x ≡ None → done ≡ done ++ filter keep (walk next n x)
    ended n m x done is step = rw (is, step) (sym (append-nil done))

    -- no step left
    pub cut : (n : ℕ) (x : A) (done : List A) → n ≡ 0 → done ≡ done ++ filter keep (walk next n x)
    cut n x done is = rw is (sym (append-nil done))
