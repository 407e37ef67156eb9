-- What a formatter is kept under, which key a line uses, and how many formatters are made for lines.
-- Defined in docs/requests.md, "What a cache keeps".
-- Cited by `run`.
use Rattle.std.specs.Prelude.{ℕ, Bool, true, ◌&&◌, List, [], map, min, Option, Some, None, is_ok, is_some}
use Rattle.icu_locale_core.specs.TagPreferences.{Preferences}
use Rattle.icu_plurals.specs.declared.PluralRuleType.{PluralRuleType}
use Rattle.icu_plurals.specs.declared.PluralRuleType.TheVariants as rule
use Rattle.locale_numbers_book.specs.Book.{BookTables}
use Rattle.locale_numbers_book.specs.FoundFormats.{found_for}
use Rattle.locale_numbers_book.specs.FoundRules.{plural_rules_for}
use Rattle.locale_numbers_book.specs.Wanted.{wanted_of}
use Rattle.locale_numbers_cache.specs.Cached.{most, used}
use Rattle.locale_numbers_cache.specs.Recent.{misses}
use Rattle.locale_numbers_answers.specs.CompactReading.{CompactReading, compact_beyond, compact_nothing, compact_number, compact_reading_of}
use Rattle.locale_numbers_answers.specs.NumberReading.{Reading, number, beyond, nothing, reading_of}
use Rattle.locale_numbers_formats.specs.declared.NumberShape.{NumberShape}
use Rattle.locale_numbers_requests.specs.RangeEnds.{range_ends}
use Rattle.locale_numbers_requests.specs.Request.{Asked, request_of}
use Rattle.locale_numbers_requests.specs.declared.Task.{Task}
use Rattle.locale_numbers_requests.specs.declared.Task.TheVariants.{Write, WriteExact, Read, ReadLenient, Category, RangeCategory}
use Rattle.locale_numbers.specs.contracts.formatter_key.FormatterKeyPartialEq.TheImpl as keys
use Rattle.locale_numbers.specs.declared.formatter_key.FormatterKey.{FormatterKey}
use Rattle.locale_numbers.specs.declared.formatter_key.Purpose.{Purpose}
use Rattle.locale_numbers.specs.declared.formatter_key.Purpose.TheVariants.{Writes, ReadsTyped, Cardinal, Ordinal}

-- what the formatter of a task is for: what was typed is read with folded symbols, and a category is told by rules
abbrev pub purpose_of : Task → Purpose
purpose_of Write = Writes
purpose_of WriteExact = Writes
purpose_of Read = Writes
purpose_of ReadLenient = ReadsTyped
purpose_of (Category rule.Cardinal) = Cardinal
purpose_of (Category rule.Ordinal) = Ordinal
purpose_of RangeCategory = Cardinal

-- the key of what a tag prefers, a task and a shape
abbrev pub key_with : Task → NumberShape → Preferences → FormatterKey
key_with task shape preferences = record { preferences = preferences; shape = shape; purpose = purpose_of task }

-- the key is asked for where the text says a number within the limits
abbrev pub key_text : FormatterKey → Reading → Option FormatterKey
key_text key (number value) = Some key
key_text key beyond = None
key_text key nothing = None

-- the same of the text of an exact form
abbrev pub key_exact : FormatterKey → CompactReading → Option FormatterKey
key_exact key (compact_number value) = Some key
key_exact key compact_beyond = None
key_exact key compact_nothing = None

-- of the two ends of a range: where both are such numbers
abbrev pub key_ends : FormatterKey → Reading → Reading → Option FormatterKey
key_ends key (number first) second = key_text key second
key_ends key beyond _ = None
key_ends key nothing _ = None

-- of a range, where there is one
abbrev pub key_range : FormatterKey → Option (List ℕ × List ℕ) → Option FormatterKey
key_range key None = None
key_range key (Some ends) = key_ends key (reading_of ends.0) (reading_of ends.1)

-- the key that a task asks for: any text may be one to read back
abbrev pub key_in : Task → FormatterKey → List ℕ → Option FormatterKey
key_in Write key text = key_text key (reading_of text)
key_in WriteExact key text = key_exact key (compact_reading_of text)
key_in Read key text = Some key
key_in ReadLenient key text = Some key
key_in (Category rule_type) key text = key_text key (reading_of text)
key_in RangeCategory key text = key_range key (range_ends text)

-- the key of a request by what its tag prefers, where it is a tag
abbrev pub key_tagged : Asked → Option Preferences → Option FormatterKey
key_tagged asked None = None
key_tagged asked (Some preferences) = key_in asked.task (key_with asked.task asked.format.shape preferences) asked.text

-- the key of a request, or of a line that is not one
abbrev pub key_asked : Option Asked → Option FormatterKey
key_asked None = None
key_asked (Some asked) = key_tagged asked (wanted_of asked.tag)

-- the key that a line asks for, where it is refused for neither its shape nor its tag nor its text
abbrev pub key_of : List ℕ → Option FormatterKey
key_of line = key_asked (request_of line)

-- the rules that a formatter needs beside its tables
abbrev pub rules_for : Purpose → Option PluralRuleType
rules_for Writes = None
rules_for ReadsTyped = None
rules_for Cardinal = Some rule.Cardinal
rules_for Ordinal = Some rule.Ordinal

-- whether a book has these rules, where some are needed
abbrev pub finds_rules : BookTables → Preferences → Option PluralRuleType → Bool
finds_rules book preferences None = true
finds_rules book preferences (Some rule_type) = is_some (plural_rules_for rule_type book preferences)

-- whether a book has the tables of a key, and its rules
abbrev pub finds : BookTables → FormatterKey → Bool
finds book key = is_ok (found_for key.shape book key.preferences) && finds_rules book key.preferences (rules_for key.purpose)

-- ---- how many are made

-- two keys are one: what the tags prefer, the shape, and what the formatters are for, are `==`
abbrev pub same_keys : FormatterKey → FormatterKey → Bool
same_keys = keys.ghosts.eq

-- how many formatters are made for these lines, where so many may be kept: one for each use of a key that is not kept
abbrev pub makes : BookTables → ℕ → List (List ℕ) → ℕ
makes book capacity lines = min (misses same_keys capacity [] (used (finds book) (map key_of lines))) most
