-- A list of singletons has a piece exactly where the piece is one character and its byte is there.
use Rattle.std.proofs.Common.{◌≡◌, ℕ, ◌<◌, ◌≤◌, Bool, false, ◌||◌, List, [], ◌∷◌, length, refl, sym, ap, ◌∙◌, nat_eq, arith}
use Rattle.std.proofs.Math.Bool.{and-true, and-false}
use Rattle.std.specs.List.{list_any}
use Rattle.std.specs.Char.{to_ascii_lowercase}
use Rattle.std.specs.Prelude.{slice_index_or}
use Rattle.std.specs.Cmp.{nat_eq_equiv}
use Rattle.icu_locale_core_grammar.specs.Subtags.{Text, lower}
use Rattle.icu_locale_core_grammar.specs.Collections.{contains_text}
use Rattle.icu_locale_core_locale.specs.StageView.{singletons}

pub byte_contained : (b : ℕ) (seen : List ℕ) → contains_text (b ∷ []) (singletons seen) ≡ list_any (λ c. nat_eq c b) seen
byte_contained b [] = refl
byte_contained b (c ∷ cs) = λ i. (and-true (nat_eq b c) ∙ nat_eq_equiv.symm b c) i || byte_contained b cs i

longer_apart : (b c : ℕ) (bs : Text) (seen : List ℕ) → contains_text (b ∷ c ∷ bs) (singletons seen) ≡ false
longer_apart b c bs [] = refl
longer_apart b c bs (d ∷ ds) = λ i. and-false (nat_eq b d) i || longer_apart b c bs ds i

none_apart : (seen : List ℕ) → contains_text [] (singletons seen) ≡ false
none_apart [] = refl
none_apart (d ∷ ds) = none_apart ds

pub one_has_come : (piece : Text) (seen : List ℕ) (b d : ℕ) (found : Bool) → 1 ≤ length piece → length piece < 2 → b ≡ to_ascii_lowercase (slice_index_or piece 0 d)
    → found ≡ list_any (λ c. nat_eq c b) seen → found ≡ contains_text (lower piece) (singletons seen)
one_has_come [] seen b d found low high is e = absurd (not_short low)
  where
    not_short : 1 ≤ 0 → ⊥
    not_short low = omega (arith, low)
one_has_come (c ∷ []) seen b d found low high is e = e ∙ ap (λ x. list_any (λ y. nat_eq y x) seen) is ∙ sym (byte_contained (to_ascii_lowercase c) seen)
one_has_come (c ∷ g ∷ cs) seen b d found low high is e = let lacks : ⊥ = omega (arith, high) in absurd lacks

pub none_has_come : (piece : Text) (seen : List ℕ) → length piece < 1 → false ≡ contains_text (lower piece) (singletons seen)
none_has_come [] seen high = sym (none_apart seen)
none_has_come (c ∷ cs) seen high = let lacks : ⊥ = omega (arith, high) in absurd lacks

pub longer_has_not_come : (piece : Text) (seen : List ℕ) → 2 ≤ length piece → false ≡ contains_text (lower piece) (singletons seen)
longer_has_not_come [] seen low = let lacks : ⊥ = omega (arith, low) in absurd lacks
longer_has_not_come (c ∷ []) seen low = let lacks : ⊥ = omega (arith, low) in absurd lacks
longer_has_not_come (c ∷ d ∷ cs) seen low = sym (longer_apart (to_ascii_lowercase c) (to_ascii_lowercase d) (lower cs) seen)
