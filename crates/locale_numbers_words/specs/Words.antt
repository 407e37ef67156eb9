-- The words that files of words are, each after those before it: tables, and the first fault.
-- Defined in docs/words.md, "Tables of words".
-- Cited by `Words::new` and `Words::add_file`.
use Rattle.std.specs.Prelude.{ℕ, Bool, ◌&&◌, ◌||◌, List, [], Option, Some, if◌then◌else◌}
use Rattle.std.specs.Option.{option_or}
use Rattle.serde_json.specs.Data.{Data, Items}
use Rattle.icu_locale_core.specs.TagPreferences.{DataLocaleMeaning}
use Rattle.icu_decimal.specs.Identifiers.{Identifier}
use Rattle.icu_dimension_words.specs.Words.{Pair}
use Rattle.locale_numbers_plurals.specs.Form.{items_at}
use Rattle.locale_numbers_tables.specs.Allocation.{begins_with}
use Rattle.locale_numbers_tables.specs.Keys.{same_data_locale, same_key}
use Rattle.locale_numbers_words.specs.Categories.{Values}
use Rattle.locale_numbers_words.specs.Entries.{UnitList, has_names_frame, has_patterns_frame, has_units_frame, locale_key, names_fault, names_key, names_said, patterns_fault, patterns_said, units_fault, units_key, units_said}
use Rattle.locale_numbers_words.specs.Faults.{first_fault_after, table_after}
use Rattle.locale_numbers_words.specs.Files.{is_file}
use Rattle.locale_numbers_words.specs.declared.error.WordsError.{WordsError}
use Rattle.locale_numbers_words.specs.declared.error.WordsError.TheVariants.{Shape}

-- the tables of words
pub record WordsTables : Type 0 where
  pub patterns : List (DataLocaleMeaning × Values Pair)
  pub names : List (Identifier × Values (List ℕ))
  pub units : List (Identifier × UnitList)

abbrev pub no_words : WordsTables
no_words = record { patterns = []; names = []; units = [] }

-- ---- three arrays after these words

abbrev pub patterns_faults : WordsTables → Items → Option WordsError
patterns_faults before entries = first_fault_after same_data_locale locale_key patterns_said patterns_fault before.patterns entries

abbrev pub names_faults : WordsTables → Items → Option WordsError
names_faults before entries = first_fault_after same_key names_key names_said names_fault before.names entries

abbrev pub units_faults : WordsTables → Items → Option WordsError
units_faults before entries = first_fault_after same_key units_key units_said units_fault before.units entries

-- the fault of the first faulty entry, in the order of the arrays
abbrev pub words_fault : WordsTables → Items → Items → Items → Option WordsError
words_fault before patterns names units =
    option_or (patterns_faults before patterns) (option_or (names_faults before names) (units_faults before units))

-- these, and after them what the entries say under new keys
abbrev pub words_after : WordsTables → Items → Items → Items → WordsTables
words_after before patterns names units = record {
  patterns = table_after same_data_locale locale_key patterns_said before.patterns patterns;
  names = table_after same_key names_key names_said before.names names;
  units = table_after same_key units_key units_said before.units units;
}

-- where reading them may run out of memory: where one of the arrays begins so
abbrev pub words_may_grow : Items → Items → Items → Bool
words_may_grow patterns names units =
    begins_with has_patterns_frame patterns || begins_with has_names_frame names || begins_with has_units_frame units

-- ---- a file after these words

abbrev pub file_fault : WordsTables → Data → Option WordsError
file_fault before file = if is_file file then words_fault before (items_at 0 file) (items_at 1 file) (items_at 2 file) else Some Shape

abbrev pub words_with : WordsTables → Data → WordsTables
words_with before file = words_after before (items_at 0 file) (items_at 1 file) (items_at 2 file)

abbrev pub file_may_grow : Data → Bool
file_may_grow file = is_file file && words_may_grow (items_at 0 file) (items_at 1 file) (items_at 2 file)
