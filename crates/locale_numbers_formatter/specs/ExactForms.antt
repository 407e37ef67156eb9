-- Exact forms of any format: a significand as it is given, with the exponent that its pattern stands for. Scientific numbers have none.
-- Defined in docs/compact-text.md, "Exact forms".
-- Cited by `format_exact` of `NumberFormatter`, and by the laws.
use Rattle.std.specs.Prelude.{ℕ, ◌==◌, cond, List, Option, None, Some, option_map}
use Rattle.fixed_decimal.specs.CompactText.{CompactValue}
use Rattle.icu_decimal.specs.CompactTables.{CompactTables}
use Rattle.icu_decimal.specs.CompactText.{pattern_of}
use Rattle.icu_decimal.specs.ExactForms.{IsInRange}
use Rattle.icu_decimal.specs.Operands.{operands_of}
use Rattle.icu_decimal.specs.ShownChoice.{exact_entry}
use Rattle.icu_decimal.specs.declared.provider.CompactEntry.{CompactEntry}
use Rattle.locale_numbers_formatter.specs.FormatText.{FormatTables, Shown, compact_tables, digits_tables, plain_tables, scientific_tables, shown_as_it_is, shown_in, text_of_shown, unit_tables}

-- a format without compact patterns has the exponent 0, and no other
abbrev pub without_exponent : FormatTables → CompactValue → Option Shown
without_exponent f form = cond (form.exponent == 0) (Some (shown_as_it_is f form.significand)) None

-- a significand in the pattern of an entry, or of none
abbrev pub under_entry : CompactTables → CompactValue → Option CompactEntry → Shown
under_entry t form entry =
    shown_in (compact_tables t) form.significand form.exponent (pattern_of t entry (operands_of form.significand.absolute 0))

abbrev pub compact_exact_shown : CompactTables → CompactValue → Option Shown
compact_exact_shown t form = option_map (under_entry t form) (exact_entry 32768 t.patterns.entries form.significand.absolute.count form.exponent)

-- options change no exact form
abbrev pub exact_shown : FormatTables → CompactValue → Option Shown
exact_shown (plain_tables t) form = without_exponent (plain_tables t) form
exact_shown (compact_tables t) form = compact_exact_shown t form
exact_shown (digits_tables t o) form = compact_exact_shown t form
exact_shown (unit_tables u) form = without_exponent (unit_tables u) form
exact_shown (scientific_tables s) form = None

abbrev pub exact_format_text : FormatTables → CompactValue → Option (List ℕ)
exact_format_text f form = option_map text_of_shown (exact_shown f form)

-- under compact patterns the magnitude of both together is one of a decimal
abbrev pub IsFormInRange : FormatTables → CompactValue → Type 0
IsFormInRange (plain_tables t) form = Unit {0}
IsFormInRange (compact_tables t) form = IsInRange form.significand.absolute.count form.exponent
IsFormInRange (digits_tables t o) form = IsInRange form.significand.absolute.count form.exponent
IsFormInRange (unit_tables u) form = Unit {0}
IsFormInRange (scientific_tables s) form = Unit {0}
