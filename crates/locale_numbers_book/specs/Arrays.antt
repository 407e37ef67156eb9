-- A book as the value of its arrays, alone, with units, or with units, plurals and signs.
-- Defined in docs/books.md, "The form", "Units", "More" and "Faults".
-- Cited by the steps of `Book::from_json`.
use Rattle.std.specs.Prelude.{◌≡◌, Bool, true, false, ◌||◌, List, Option, None, Some, option_map, unwrap_or}
use Rattle.std.specs.Option.{option_or}
use Rattle.serde_json.specs.Data.{Data, array, Items, no_items, item}
use Rattle.serde_json.specs.View.{items_view}
use Rattle.icu_decimal.specs.Identifiers.{Identifier}
use Rattle.locale_numbers_tables.specs.declared.BookError.{BookError}
use Rattle.locale_numbers_plurals.specs.Plurals.{ArePlurals, PluralTables, plurals_fault, plurals_may_grow}
use Rattle.locale_numbers_signs.specs.NumberSigns.{SignTexts}
use Rattle.locale_numbers_signs.specs.SignsEntries.{signs_entry, signs_faults, signs_may_grow}
use Rattle.locale_numbers_tables.specs.Allocation.{begins_with}
use Rattle.locale_numbers_tables.specs.Keys.{same_key, table_in}
use Rattle.locale_numbers_units.specs.declared.UnitArrays.{UnitArrays}
use Rattle.locale_numbers_units.specs.Units.{units_fault, units_may_grow}
use Rattle.locale_numbers_book.specs.Book.{BookTables, HasTables, HasUnits}
use Rattle.locale_numbers_book.specs.BookAllocation.{arrays_may_grow}
use Rattle.locale_numbers_book.specs.Form.{arrays_fault, book_part, has_more_form, items_at, more_part, units_part}
use Rattle.locale_numbers_book.specs.declared.json.form.Arrays.{Arrays}
use Rattle.locale_numbers_book.specs.declared.json.more.MoreArrays.{MoreArrays}
use Rattle.locale_numbers_book.specs.declared.json.parts.BookArrays.{BookArrays}

-- the sixth array as the last of the value, or nothing
abbrev pub last_array : Option Items → Items
last_array None = no_items
last_array (Some sixth) = item (array sixth) no_items

-- the value of which these are the arrays
abbrev pub of_arrays : Items → Items → Items → Items → Items → Option Items → Data
of_arrays first second third fourth fifth sixth =
    array (item (array first) (item (array second) (item (array third) (item (array fourth) (item (array fifth) (last_array sixth))))))

-- ---- arrays that were taken from a value

-- the sixth, which may be missing
abbrev pub sixth_of : Arrays → Option Items
sixth_of arrays = option_map (λ entries. items_view entries.items) arrays.sixth

-- the value that they were taken from
abbrev pub value_of_arrays : Arrays → Data
value_of_arrays arrays =
    of_arrays (items_view arrays.first.items) (items_view arrays.second.items) (items_view arrays.third.items)
    (items_view arrays.fourth.items) (items_view arrays.fifth.items) (sixth_of arrays)

-- the fault of the first faulty entry in those of a book
abbrev pub fault_in : Arrays → Option BookError
fault_in arrays =
    arrays_fault (items_view arrays.first.items) (items_view arrays.second.items) (items_view arrays.third.items)
    (items_view arrays.fourth.items) (items_view arrays.fifth.items) (unwrap_or (sixth_of arrays) no_items)

-- whether memory is asked for before a fault is found in them
abbrev pub may_grow_in : Arrays → Bool
may_grow_in arrays =
    arrays_may_grow (items_view arrays.first.items) (items_view arrays.second.items) (items_view arrays.third.items)
    (items_view arrays.fourth.items) (items_view arrays.fifth.items) (unwrap_or (sixth_of arrays) no_items)

-- ---- arrays of units

abbrev pub value_of_units : UnitArrays → Data
value_of_units arrays =
    of_arrays (items_view arrays.percents.items) (items_view arrays.currencies.items) (items_view arrays.accounts.items)
    (items_view arrays.symbols.items) (items_view arrays.digits.items) None

abbrev pub units_fault_in : Option UnitArrays → Option BookError
units_fault_in None = None
units_fault_in (Some arrays) =
    units_fault (items_view arrays.percents.items) (items_view arrays.currencies.items) (items_view arrays.accounts.items)
    (items_view arrays.symbols.items) (items_view arrays.digits.items)

abbrev pub units_may_grow_in : Option UnitArrays → Bool
units_may_grow_in None = false
units_may_grow_in (Some arrays) =
    units_may_grow (items_view arrays.percents.items) (items_view arrays.currencies.items) (items_view arrays.accounts.items)
    (items_view arrays.symbols.items) (items_view arrays.digits.items)

-- ---- arrays of plurals and of signs

-- they are the first three arrays of this value, which has the form
pub record AreOf (value : Data) (arrays : MoreArrays) : Type 0 where
  pub form : has_more_form value ≡ true
  pub ordinals : items_view arrays.plurals.ordinals.items ≡ items_at 0 value
  pub ranges : items_view arrays.plurals.ranges.items ≡ items_at 1 value
  pub signs : items_view arrays.signs.items ≡ items_at 2 value

-- without a value there are none
abbrev pub AreTaken : Option Data → Option MoreArrays → Type 0
AreTaken None None = Unit {0}
AreTaken (Some value) (Some arrays) = AreOf value arrays
AreTaken value arrays = ⊥

abbrev pub more_fault_in : Option MoreArrays → Option BookError
more_fault_in None = None
more_fault_in (Some arrays) =
    option_or (plurals_fault (items_view arrays.plurals.ordinals.items) (items_view arrays.plurals.ranges.items)) (signs_faults (items_view arrays.signs.items))

abbrev pub more_may_grow_in : Option MoreArrays → Bool
more_may_grow_in None = false
more_may_grow_in (Some arrays) =
    plurals_may_grow (items_view arrays.plurals.ordinals.items) (items_view arrays.plurals.ranges.items) || begins_with signs_may_grow (items_view arrays.signs.items)

-- plurals are those of arrays, and without these there are none
abbrev pub ArePluralsIn : Option MoreArrays → Option PluralTables → Type 0
ArePluralsIn None None = Unit {0}
ArePluralsIn (Some arrays) (Some plurals) = ArePlurals (items_view arrays.plurals.ordinals.items) (items_view arrays.plurals.ranges.items) plurals
ArePluralsIn arrays plurals = ⊥

-- and so are signs
abbrev pub signs_in : Option MoreArrays → Items
signs_in None = no_items
signs_in (Some arrays) = items_view arrays.signs.items

abbrev pub AreSignsIn : Option MoreArrays → List (Identifier × SignTexts) → Type 0
AreSignsIn arrays signs = table_in same_key signs_entry (signs_in arrays) ≡ Some signs

-- ---- all

-- these are the arrays of the parts of a value
pub record AreParts (value : Data) (arrays : BookArrays) : Type 0 where
  pub book : book_part value ≡ value_of_arrays arrays.book
  pub units : units_part value ≡ option_map value_of_units arrays.units
  pub more : AreTaken (more_part value) arrays.more

-- the fault of the units, and then of the plurals and of the signs; and whether one of them may want memory
abbrev pub fault_beside : Option UnitArrays → Option MoreArrays → Option BookError
fault_beside units more = option_or (units_fault_in units) (more_fault_in more)

abbrev pub may_grow_beside : Option UnitArrays → Option MoreArrays → Bool
may_grow_beside units more = units_may_grow_in units || more_may_grow_in more

abbrev pub fault_of_parts : BookArrays → Option BookError
fault_of_parts arrays = option_or (fault_in arrays.book) (fault_beside arrays.units arrays.more)

abbrev pub may_grow_of_parts : BookArrays → Bool
may_grow_of_parts arrays = may_grow_in arrays.book || may_grow_beside arrays.units arrays.more

-- they have no fault, and these are their tables
pub record HasParts (taken : BookArrays) (tables : BookTables) : Type 0 where
  pub sound : fault_of_parts taken ≡ None
  pub arrays : HasTables (value_of_arrays taken.book) tables
  pub units : HasUnits (option_map value_of_units taken.units) tables.units
  pub plurals : ArePluralsIn taken.more tables.plurals
  pub signs : AreSignsIn taken.more tables.signs
