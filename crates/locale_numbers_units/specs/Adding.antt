-- One more entry of an array in a table.
-- Defined in docs/books.md, "Units".
-- Cited by the reading of each array of units.
use Rattle.std.specs.Prelude.{◌≡◌, Bool, true, List, [], ◌∷◌, ◌++◌, Option, None, Some}
use Rattle.serde_json.specs.Data.{Data}
use Rattle.locale_numbers_tables.specs.Keys.{table_at}
use Rattle.locale_numbers_tables.specs.declared.BookError.{BookError}
use Rattle.locale_numbers_units.specs.Faults.{under_key}

-- what an entry without a fault says is after the others, under a key that is new
pub record Adds {K V : Type 0} (same : K → K → Bool) (key : Data → Option K) (said : Data → Option V) (fault : Bool → Data → Option BookError) (entry : Data) (before after : List (K × V)) : Type 0 where
  pub pair : K × V
  pub says : under_key key said entry ≡ Some pair
  pub keyed : key entry ≡ Some pair.0
  pub sound : fault true entry ≡ None
  pub fresh : table_at same pair.0 before ≡ None
  pub added : after ≡ before ++ pair ∷ []
