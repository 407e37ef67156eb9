-- What plural rules see of a number as a formatter of any format shows it: its digits with their zeros, and the exponent shown.
-- UTS 35, part 3 (numbers), section 5.1.1 (operands); docs/plurals.md, "Numbers as they are shown".
-- Cited by `plural_operands` of `NumberFormatter`, and by the answers that are categories.
use Rattle.std.specs.Prelude.{nat_lt, ◌==◌, min, Bool, true, cond, Option, None, Some}
use Rattle.fixed_decimal.specs.CompactText.{CompactValue}
use Rattle.fixed_decimal.specs.Number.{Number}
use Rattle.fixed_decimal.specs.Rounding.{count_limit}
use Rattle.fixed_decimal.specs.Shifts.{rise}
use Rattle.fixed_decimal.specs.SignedValue.{SignedValue}
use Rattle.icu_decimal.specs.Operands.{Operands, operands_of}
use Rattle.icu_decimal.specs.ShownChoice.{shown_under}
use Rattle.icu_decimal_scientific.specs.FormOf.{below_form}
use Rattle.icu_decimal_scientific.specs.Scientific.{ScientificParts}
use Rattle.locale_numbers_formatter.specs.CompactDigits.{below_exponent}
use Rattle.locale_numbers_formatter.specs.FormatText.{FormatTables, Shown, compact_tables, digits_tables, form_shown, plain_tables, scientific_tables, shown_by, unit_tables}

-- it has a text
abbrev pub is_shown : FormatTables → SignedValue Number → Bool
is_shown (plain_tables t) d = true
is_shown (compact_tables t) d = nat_lt (shown_under 32768 t.patterns.entries d.absolute.count) count_limit
is_shown (digits_tables t o) d = below_exponent t.patterns.entries d == 0
is_shown (unit_tables u) d = true
is_shown (scientific_tables s) d = below_form s.style.notation d.absolute.count == 0

-- the operands of a significand with its exponent, whatever its sign
abbrev pub value_operands : CompactValue → Operands
value_operands value = operands_of value.significand.absolute value.exponent

-- what rules see of what is shown: the significand, and the exponent of its pattern
abbrev pub seen_in_pattern : Shown → CompactValue
seen_in_pattern s = record { significand = s.significand; exponent = s.exponent }

-- the exponent of a scientific number, from 0 to 255: they see none below, and none above
abbrev pub seen_of_form : ScientificParts → CompactValue
seen_of_form form = record { significand = form.significand; exponent = min 255 (rise form.exponent) }

abbrev pub value_seen : FormatTables → SignedValue Number → CompactValue
value_seen (plain_tables t) d = seen_in_pattern (shown_by (plain_tables t) d)
value_seen (compact_tables t) d = seen_in_pattern (shown_by (compact_tables t) d)
value_seen (digits_tables t o) d = seen_in_pattern (shown_by (digits_tables t o) d)
value_seen (unit_tables u) d = seen_in_pattern (shown_by (unit_tables u) d)
value_seen (scientific_tables s) d = seen_of_form (form_shown s d)

-- the operands of what is shown, where something is
abbrev pub shown_operands : FormatTables → SignedValue Number → Option Operands
shown_operands f d = cond (is_shown f d) (Some (value_operands (value_seen f d))) None
