-- The amount that a rounding to the digits of a currency makes, as a function: the nearest multiple, shown down to the last digit.
-- Defined in docs/units.md, "Digits of a currency"; a law of `locale_numbers_answers` says that it is the amount which the relation of `icu_dimension_fractions` names.
-- Cited by `NumberOptions::change`, and by `answer` and `run`, through Answers.antt and ReadAnswer.antt of `locale_numbers_answers`.
use Rattle.fixed_decimal.specs.Number.{Number}
use Rattle.fixed_decimal.specs.SignedValue.{SignedValue}
use Rattle.fixed_decimal.specs.declared.UnsignedRoundingMode.TheVariants.{HalfEven}
use Rattle.icu_dimension_fractions.specs.Fractions.{last_place, step}
use Rattle.icu_dimension_fractions.specs.declared.Fraction.{Fraction}
use Rattle.locale_numbers_formats.specs.Rounded.{holding_from, limited, multiple_of}

-- an amount without its sign
abbrev pub amount_size : Fraction → Number → Number
amount_size f old =
    let count = limited (multiple_of HalfEven (step f) old.count) in
    record { count = count; low = last_place f; high = holding_from count old.high count }

-- its sign is kept
abbrev pub amount_rounded : Fraction → SignedValue Number → SignedValue Number
amount_rounded f value = record { sign = value.sign; absolute = amount_size f value.absolute }
