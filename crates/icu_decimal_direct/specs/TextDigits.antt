-- The number that the digits of a text spell.
-- Defined in docs/numbers.md, "The text".
-- Cited by `TextDigits::of`, `TextDigits::plural_operands` and `TextTables::put`.
use Rattle.fixed_decimal.specs.Number.{Number}
use Rattle.fixed_decimal.specs.SignedValue.{SignedValue}
use Rattle.icu_decimal_direct.specs.FewDigits.{plain_number}
use Rattle.icu_decimal_direct.specs.declared.text_digits.TextDigits.{TextDigits}

abbrev pub number_spelled : TextDigits → SignedValue Number
number_spelled d = record { sign = d.sign; absolute = plain_number d.integer.now d.fraction.now }
