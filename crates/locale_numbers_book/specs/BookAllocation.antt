-- Where the reading of a whole book may run out of memory: never at a fault that is found before memory is asked for.
-- Defined in docs/books.md, "Faults"; entries of tables in `Allocation.antt` of `locale_numbers_tables`, those of units in `locale_numbers_units`, of plurals in `locale_numbers_plurals`, of signs in `locale_numbers_signs`.
-- Cited by the steps of `Book::from_json`.
use Rattle.std.specs.Prelude.{Bool, false, not, ◌&&◌, ◌||◌, List, [], Option, None, Some, is_some}
use Rattle.serde_json.specs.Data.{Data, Items}
use Rattle.locale_numbers_parents.specs.Parents.{Entry}
use Rattle.locale_numbers_tables.specs.Allocation.{begins_with, compact_may_grow, digits_may_grow, locale_may_grow, rules_may_grow, symbols_may_grow}
use Rattle.locale_numbers_plurals.specs.Plurals.{plurals_may_grow}
use Rattle.locale_numbers_signs.specs.SignsEntries.{signs_may_grow}
use Rattle.locale_numbers_units.specs.Units.{units_may_grow}
use Rattle.locale_numbers_book.specs.Form.{are_more, are_units, book_part, has_form, items_at, more_part, units_part}
use Rattle.locale_numbers_book.specs.ParentEntries.{has_parent_shape, parent_fault}

-- parents, after these: an entry of two texts, of which a locale may take memory, or one that has no fault
abbrev pub parent_may_grow : List Entry → Data → Bool
parent_may_grow before entry = has_parent_shape entry && (locale_may_grow 0 entry || locale_may_grow 1 entry) || not (is_some (parent_fault before entry))

-- arrays: where one of them begins so
abbrev pub arrays_may_grow : Items → Items → Items → Items → Items → Items → Bool
arrays_may_grow symbols digits rules short long parents =
    begins_with symbols_may_grow symbols || begins_with digits_may_grow digits || begins_with rules_may_grow rules
    || begins_with compact_may_grow short || begins_with compact_may_grow long || begins_with (parent_may_grow []) parents

-- a book alone: five arrays or six that are so
abbrev pub alone_may_grow : Data → Bool
alone_may_grow value =
    has_form value && arrays_may_grow (items_at 0 value) (items_at 1 value) (items_at 2 value) (items_at 3 value) (items_at 4 value) (items_at 5 value)

-- five arrays of units that are so
abbrev pub five_may_grow : Data → Bool
five_may_grow units = units_may_grow (items_at 0 units) (items_at 1 units) (items_at 2 units) (items_at 3 units) (items_at 4 units)

-- arrays of plurals or of signs that are so
abbrev pub more_may_grow : Data → Bool
more_may_grow more = plurals_may_grow (items_at 0 more) (items_at 1 more) || begins_with signs_may_grow (items_at 2 more)

-- what is not there asks for none
abbrev pub grows_if_there : (Data → Bool) → Option Data → Bool
grows_if_there grows None = false
grows_if_there grows (Some value) = grows value

-- where each part has its form, and one of them is so
abbrev pub parts_may_grow : Data → Option Data → Option Data → Bool
parts_may_grow book units more =
    has_form book && are_units units && are_more more
    && (alone_may_grow book || grows_if_there five_may_grow units || grows_if_there more_may_grow more)

abbrev pub book_may_grow : Data → Bool
book_may_grow value = parts_may_grow (book_part value) (units_part value) (more_part value)
