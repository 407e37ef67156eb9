-- What a formatter of compact numbers with digits of their own holds.
-- Defined in docs/compact-text.md, "Digits of its own".
-- Cited by the calls of `CompactDigitsFormatter`, and by the view of `FormattedDigits`.
use Rattle.std.specs.Prelude.{ℕ, Option}
use Rattle.fixed_decimal.specs.SignedValue.{SignedValue}
use Rattle.fixed_decimal.specs.Number.{Number}
use Rattle.icu_decimal.specs.Affixes.{WithSign}
use Rattle.icu_decimal.specs.CompactTables.{CompactTables}
use Rattle.icu_decimal.specs.ExactText.{written_under}
use Rattle.icu_decimal.specs.HeldCompact.{compact_tables_of}
use Rattle.icu_decimal.specs.Pattern.{InPattern}
use Rattle.icu_decimal.specs.PlainText.{PlainNumber}
use Rattle.icu_decimal.specs.ShownChoice.{entry_of}
use Rattle.locale_numbers_formats.specs.declared.options.NumberOptions.{NumberOptions}
use Rattle.locale_numbers_formatter.specs.FormatText.{FormatTables, digits_tables}
use Rattle.locale_numbers_formatter.specs.declared.compact_digits.CompactDigitsFormatter.{CompactDigitsFormatter}

abbrev pub compact_held : CompactDigitsFormatter → CompactTables
compact_held f = compact_tables_of f.compact

abbrev pub options_held : CompactDigitsFormatter → NumberOptions
options_held f = f.options

abbrev pub digits_format : CompactDigitsFormatter → FormatTables
digits_format f = digits_tables (compact_held f) (options_held f)

-- a significand in the pattern of the entry at an index, or in none
abbrev pub written_at : CompactTables → SignedValue Number → Option ℕ → WithSign (InPattern PlainNumber)
written_at t significand index = written_under t significand (entry_of t.patterns.entries index)
