-- The outer form of a book, which is five arrays or six, alone, in a pair with five arrays of units, or with these and with arrays of plurals and
-- of signs, and the first fault of one.
-- Defined in docs/books.md, "The form", "Units", "More", "Faults" and "Faults of a pair".
-- Cited by the steps of `Book::from_json`, and by itself through Book.antt and Refusal.antt.
use Rattle.std.specs.Prelude.{Bool, true, false, ◌&&◌, ◌||◌, [], Option, None, Some, unwrap_or, if◌then◌else◌}
use Rattle.std.specs.Int.{is_in_range}
use Rattle.std.specs.Option.{option_map_or, option_or}
use Rattle.serde_json.specs.Data.{Data, null, Items, no_items, item}
use Rattle.serde_json.specs.Find.{as_array, at}
use Rattle.locale_numbers_tables.specs.declared.BookError.{BookError}
use Rattle.locale_numbers_tables.specs.declared.BookError.TheVariants.{Shape}
use Rattle.locale_numbers_tables.specs.CompactEntries.{each}
use Rattle.locale_numbers_tables.specs.Entries.{count_of_items, has_count}
use Rattle.locale_numbers_tables.specs.Faults.{symbols_faults, digits_faults, rules_faults, compact_faults}
pub use Rattle.locale_numbers_plurals.specs.Form.{is_array_at, items_at}
use Rattle.locale_numbers_plurals.specs.Plurals.{plurals_fault}
use Rattle.locale_numbers_signs.specs.SignsEntries.{signs_faults}
use Rattle.locale_numbers_units.specs.Units.{units_fault}
use Rattle.locale_numbers_book.specs.ParentEntries.{parents_faults}

-- five arrays, or six
abbrev pub has_form : Data → Bool
has_form value =
    (has_count 5 value || (has_count 6 value && is_array_at 5 value))
    && is_array_at 0 value && is_array_at 1 value && is_array_at 2 value && is_array_at 3 value && is_array_at 4 value

-- the fault of the first faulty entry, in the order of the arrays
abbrev pub arrays_fault : Items → Items → Items → Items → Items → Items → Option BookError
arrays_fault symbols digits rules short long parents =
    option_or (symbols_faults symbols)
    (option_or (digits_faults digits)
    (option_or (rules_faults rules)
    (option_or (compact_faults short)
    (option_or (compact_faults long) (parents_faults [] parents)))))

-- the fault of five arrays or six
abbrev pub alone_fault : Data → Option BookError
alone_fault value =
    if has_form value
    then arrays_fault (items_at 0 value) (items_at 1 value) (items_at 2 value) (items_at 3 value) (items_at 4 value) (items_at 5 value)
    else Some Shape

-- ---- a book, its units, and more

-- an array of two items or of three
abbrev pub has_parts : Data → Bool
has_parts value = has_count 2 value || has_count 3 value

-- the first of them is a book with units; every other value is a book alone
abbrev pub book_part : Data → Data
book_part value = if has_parts value then unwrap_or (at 0 value) null else value

-- the second is the units; every other value has none
abbrev pub units_part : Data → Option Data
units_part value = if has_parts value then at 1 value else None

-- the third, where it is there, is more: plurals and signs
abbrev pub more_part : Data → Option Data
more_part value = if has_parts value then at 2 value else None

-- five arrays
abbrev pub has_units_form : Data → Bool
has_units_form units = has_count 5 units && has_form units

-- the items after the third
abbrev pub after_three : Items → Items
after_three (item first (item second (item third rest))) = rest
after_three _ = no_items

-- there are two to eight items, and those after the third are empty arrays
abbrev pub empty_after_three : Items → Bool
empty_after_three items = is_in_range 2 8 (count_of_items items) && each (λ value. has_count 0 value) (after_three items)

-- two arrays of plurals, one of signs or none, and up to five that are empty
abbrev pub has_more_form : Data → Bool
has_more_form value =
    option_map_or empty_after_three (as_array value) false && (is_array_at 0 value && (is_array_at 1 value && (has_count 2 value || is_array_at 2 value)))

-- what is not there has its form
abbrev pub are_units : Option Data → Bool
are_units None = true
are_units (Some units) = has_units_form units

abbrev pub are_more : Option Data → Bool
are_more None = true
are_more (Some more) = has_more_form more

-- the fault of five arrays of units, and of arrays of plurals and of signs
abbrev pub five_fault : Data → Option BookError
five_fault units = units_fault (items_at 0 units) (items_at 1 units) (items_at 2 units) (items_at 3 units) (items_at 4 units)

abbrev pub more_fault : Data → Option BookError
more_fault more = option_or (plurals_fault (items_at 0 more) (items_at 1 more)) (signs_faults (items_at 2 more))

-- the fault of those that are there
abbrev pub fault_of : (Data → Option BookError) → Option Data → Option BookError
fault_of fault None = None
fault_of fault (Some value) = fault value

-- the form of the parts decides first, then the book, then the units, and then the plurals and the signs
abbrev pub parts_fault : Data → Option Data → Option Data → Option BookError
parts_fault book units more =
    if are_units units && are_more more
    then option_or (alone_fault book) (option_or (fault_of five_fault units) (fault_of more_fault more))
    else Some Shape

abbrev pub book_fault : Data → Option BookError
book_fault value = parts_fault (book_part value) (units_part value) (more_part value)
