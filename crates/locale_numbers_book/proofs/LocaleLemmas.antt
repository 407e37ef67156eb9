-- The locales of a book: `specs/Tables.antt`.
use Rattle.std.proofs.Common.{◌≡◌, ◌≤◌, ◌==◌, suc, Bool, true, false, List, [], ◌∷◌, length, refl, arith}
use Rattle.icu_decimal.specs.Identifiers.{Identifier}
use Rattle.icu_decimal.specs.Symbols.{Symbols}
use Rattle.locale_numbers_book.specs.Tables.{usual_locales}

-- there are no more of them than entries
pub usual_within : (entries : List (Identifier × Symbols)) → length (usual_locales entries) ≤ length entries
usual_within [] = omega arith
usual_within (entry ∷ entries) = by (length entry.0.attributes == 0) refl (usual_within entries)
  where
    by : (b : Bool) → (length entry.0.attributes == 0) ≡ b → length (usual_locales entries) ≤ length entries → length (usual_locales (entry ∷ entries)) ≤ suc (length entries)
    by true is below = rw is (omega (arith, below))
    by false is below = rw is (omega (arith, below))
