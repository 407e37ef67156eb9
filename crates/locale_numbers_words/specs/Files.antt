-- A file of words: three arrays, of name patterns, of names of currencies, and of units.
-- Defined in docs/words.md, "Tables of words".
-- Cited by the reading of a file, and by Words.antt.
use Rattle.std.specs.Prelude.{Bool, ◌&&◌}
use Rattle.serde_json.specs.Data.{Data}
use Rattle.locale_numbers_plurals.specs.Form.{is_array_at}
use Rattle.locale_numbers_tables.specs.Entries.{has_count}

abbrev pub is_file : Data → Bool
is_file file = has_count 3 file && is_array_at 0 file && is_array_at 1 file && is_array_at 2 file
