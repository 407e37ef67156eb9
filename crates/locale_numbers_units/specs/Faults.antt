-- What is wrong with an array of units: the first faulty entry decides, and in an entry the first rule that is broken.
-- Defined in docs/books.md, "Units" and "Faults".
-- Cited by the reading of each array of units.
use Rattle.std.specs.Prelude.{Bool, not, List, ◌++◌, Option, None, option_and_then, option_map, option_to_list}
use Rattle.std.specs.Option.{option_or}
use Rattle.serde_json.specs.Data.{Data, Items, no_items, item}
use Rattle.locale_numbers_tables.specs.Faults.{is_among}
use Rattle.locale_numbers_tables.specs.declared.BookError.{BookError}

-- what an entry says, under its key
abbrev pub under_key : {K V : Type 0} → (Data → Option K) → (Data → Option V) → Data → Option (K × V)
under_key {K} {V} key said entry = option_and_then (λ k. option_map {T = V} {U = K × V} (λ v. (k, v)) (said entry)) (key entry)

-- the fault of the first faulty entry, where entries with these keys are before; the fault of an entry depends on whether its key is new
abbrev pub first_fault_after : {K : Type 0} → (K → K → Bool) → (Data → Option K) → (Bool → Data → Option BookError) → List K → Items → Option BookError
first_fault_after same key fault before no_items = None
first_fault_after same key fault before (item entry rest) =
    option_or (fault (not (is_among same before (key entry))) entry)
    (first_fault_after same key fault (before ++ option_to_list (key entry)) rest)
