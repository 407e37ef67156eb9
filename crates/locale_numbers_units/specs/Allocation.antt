-- Where the reading of units may run out of memory: never at a fault that is found before memory is asked for.
-- Defined in docs/books.md, "Faults".
-- Cited by the reading of each array of units.
use Rattle.std.specs.Prelude.{Bool, true, false, ◌&&◌, ◌||◌, Option, Some}
use Rattle.serde_json.specs.Data.{Data}
use Rattle.locale_numbers_tables.specs.Allocation.{locale_may_grow}
use Rattle.locale_numbers_tables.specs.declared.BookError.{BookError}
use Rattle.locale_numbers_tables.specs.declared.BookError.TheVariants.{Duplicate}

abbrev pub is_duplicate : Option BookError → Bool
is_duplicate (Some Duplicate) = true
is_duplicate _ = false

-- an entry that would be refused as a duplicate: it has no fault of a lower number
abbrev pub passes : (Bool → Data → Option BookError) → Data → Bool
passes fault entry = is_duplicate (fault false entry)

-- an entry with a locale: one of the right shape, of which the locale may take memory, or one that passes
abbrev pub tagged_may_grow : (Data → Bool) → (Bool → Data → Option BookError) → Data → Bool
tagged_may_grow has_shape fault entry = has_shape entry && locale_may_grow 0 entry || passes fault entry
