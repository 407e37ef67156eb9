-- One more category with its condition: `specs/RulesEntries.antt`.
use Rattle.std.proofs.Common.{◌≡◌, ℕ, List, [], ◌∷◌, ◌++◌, Bor, refl, ap}
use Rattle.icu_decimal.specs.declared.plurals.PluralCategory.{PluralCategory}
use Rattle.icu_decimal.specs.Reading.{pairs_of}

pub pairs_more : (given : List (PluralCategory × Bor (List ℕ))) (category : PluralCategory) (text : Bor (List ℕ))
    → pairs_of (given ++ (category, text) ∷ []) ≡ pairs_of given ++ (category, text.now) ∷ []
pairs_more [] category text = refl
pairs_more (pair ∷ given) category text = ap (λ rest. (pair.0, pair.1.now) ∷ rest) (pairs_more given category text)
