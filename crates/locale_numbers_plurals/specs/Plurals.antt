-- Both arrays as tables, and their first fault.
-- Defined in docs/books.md, "More" and "Faults".
-- Cited by the calls of `Plurals`.
use Rattle.std.specs.Prelude.{◌≡◌, Bool, ◌||◌, List, [], Option, Some, None}
use Rattle.std.specs.Option.{option_or}
use Rattle.serde_json.specs.Data.{Items}
use Rattle.icu_locale_core.specs.TagPreferences.{DataLocaleMeaning}
use Rattle.icu_decimal.specs.Rules.{Rules}
use Rattle.icu_plurals.specs.declared.PluralRange.{PluralRange}
use Rattle.locale_numbers_faults.specs.declared.BookError.{BookError}
use Rattle.locale_numbers_tables.specs.Allocation.{begins_with, rules_may_grow}
use Rattle.locale_numbers_tables.specs.Faults.{first_fault_after, rules_faults}
use Rattle.locale_numbers_tables.specs.Keys.{same_data_locale, table_in}
use Rattle.locale_numbers_tables.specs.RulesEntries.{rules_entry, rules_key}
use Rattle.locale_numbers_plurals.specs.RangesEntries.{ranges_entry, ranges_fault}

-- ordinal rules and ranges, by their locales
pub record PluralTables : Type 0 where
  pub ordinals : List (DataLocaleMeaning × Rules)
  pub ranges : List (DataLocaleMeaning × List PluralRange)

abbrev pub ranges_faults : Items → Option BookError
ranges_faults entries = first_fault_after same_data_locale rules_key ranges_fault [] entries

-- the fault of the first faulty entry, in the order of the arrays; an entry of ordinal rules is one of cardinal rules
abbrev pub plurals_fault : Items → Items → Option BookError
plurals_fault ordinals ranges = option_or (rules_faults ordinals) (ranges_faults ranges)

-- arrays have no fault, and these are their tables
pub record ArePlurals (ordinals ranges : Items) (tables : PluralTables) : Type 0 where
  pub sound : plurals_fault ordinals ranges ≡ None
  pub ordinals_are : table_in same_data_locale rules_entry ordinals ≡ Some tables.ordinals
  pub ranges_are : table_in same_data_locale ranges_entry ranges ≡ Some tables.ranges

-- where reading them may run out of memory: where one of the arrays begins so
abbrev pub plurals_may_grow : Items → Items → Bool
plurals_may_grow ordinals ranges = begins_with rules_may_grow ordinals || begins_with rules_may_grow ranges
