-- One more entry of an array in a table.
-- Defined in docs/books.md, "The form".
-- Cited by the steps of `Book::from_json`.
use Rattle.std.specs.Prelude.{◌≡◌, Bool, List, [], ◌∷◌, ◌++◌, Option, None, Some}
use Rattle.serde_json.specs.Data.{Data}
use Rattle.locale_numbers_faults.specs.declared.BookError.{BookError}
use Rattle.locale_numbers_tables.specs.Keys.{table_at}

-- what an entry without a fault says is after the others, under a key that is new
pub record Adds {K V : Type 0} (same : K → K → Bool) (meaning : Data → Option (K × V)) (key : Data → Option K) (fault : Data → Option BookError) (entry : Data) (before after : List (K × V)) : Type 0 where
  pub pair : K × V
  pub says : meaning entry ≡ Some pair
  pub keyed : key entry ≡ Some pair.0
  pub sound : fault entry ≡ None
  pub fresh : table_at same pair.0 before ≡ None
  pub added : after ≡ before ++ pair ∷ []
