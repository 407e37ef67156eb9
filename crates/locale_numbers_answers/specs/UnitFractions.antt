-- How many fraction digits of a number with a unit are put: of an amount those of its currency, where each multiple of the last one is an amount, and of percents none at least.
-- Defined in docs/plain-text.md, "Of a text", and docs/units.md, "Digits of a currency".
-- Cited by `unit_text_tables`.
use Rattle.std.specs.Prelude.{◌==◌, ◌&&◌, Bool, true, false, Option, None, Some}
use Rattle.icu_decimal_direct.specs.UnitTexts.{UnitTexts}
use Rattle.icu_dimension.specs.declared.FractionIncrement.{FractionIncrement}
use Rattle.icu_dimension.specs.declared.FractionIncrement.TheVariants.{MultiplesOf1, MultiplesOf2, MultiplesOf5, MultiplesOf10, MultiplesOf20, MultiplesOf25, MultiplesOf50}
use Rattle.icu_dimension.specs.declared.FractionInfo.{FractionInfo}

abbrev pub is_one : FractionIncrement → Bool
is_one MultiplesOf1 = true
is_one MultiplesOf2 = false
is_one MultiplesOf5 = false
is_one MultiplesOf10 = false
is_one MultiplesOf20 = false
is_one MultiplesOf25 = false
is_one MultiplesOf50 = false

-- so many at least and at most as the currency has, where there is one; and else none at least
abbrev pub has_digits_of : Option FractionInfo → UnitTexts → Bool
has_digits_of None u = u.least == 0
has_digits_of (Some fractions) u =
    is_one fractions.standard.increment && ((u.least == fractions.standard.digits) && (u.most == fractions.standard.digits))
