-- The reading of what the formatter writes with a unit as a function: for each sign what is between its affixes, as a number without a sign.
-- Defined in docs/units.md, "Reading"; a law of `laws.rt` says that it is the reading which `IsUnitReading` of `icu_dimension_affixes` names.
-- Cited by `read_exactly` of `LenientUnitReader`, by NativeUnits.antt, and by what answers with it.
use Rattle.std.specs.Prelude.{ℕ, ◌-◌, cond, List, drop, length, take, Option, Some, None}
use Rattle.std.specs.Str.{bytes_eq}
use Rattle.fixed_decimal.specs.declared.Sign.{Sign}
use Rattle.fixed_decimal.specs.declared.Sign.TheVariants.{None as NoSign, Negative, Positive}
use Rattle.icu_decimal_plain.specs.PlainText.{Tables}
use Rattle.icu_decimal_lenient.specs.LenientReading.{or_else}
use Rattle.icu_decimal_reading.specs.PlainReading.{PlainReading, not_written, plain_reading, unreadable}
use Rattle.icu_dimension_affixes.specs.UnitPatterns.{AffixPair}
use Rattle.icu_dimension_affixes.specs.UnitReading.{ReaderTexts, is_unit_readable_by}
use Rattle.icu_dimension_affixes.specs.UnitText.{text_between}
use Rattle.icu_dimension_lenient.specs.LenientUnits.{signed_as}

-- a text without as many bytes at its front and at its end as two affixes have
abbrev pub trimmed_by : AffixPair → List ℕ → List ℕ
trimmed_by pair text = take (length text - length pair.before - length pair.after) (drop (length pair.before) text)

-- what is between the affixes in a text, where they are there
abbrev pub inner_of : AffixPair → List ℕ → Option (List ℕ)
inner_of pair text = cond (bytes_eq (text_between pair (trimmed_by pair text)) text) (Some (trimmed_by pair text)) None

-- the plain number without a sign that this is, with a sign
abbrev pub inner_reading : Tables → Sign → Option (List ℕ) → PlainReading
inner_reading tables sign None = not_written
inner_reading tables sign (Some inner) = signed_as sign (plain_reading tables inner)

-- the number between the affixes of a sign
abbrev pub reading_between : Tables → AffixPair → Sign → List ℕ → PlainReading
reading_between tables pair sign text = inner_reading tables sign (inner_of pair text)

-- the number between the affixes of one of the signs
abbrev pub any_reading : ReaderTexts → List ℕ → PlainReading
any_reading r text =
    or_else (reading_between r.tables r.pairs.none NoSign text)
    (or_else (reading_between r.tables r.pairs.minus Negative text) (reading_between r.tables r.pairs.plus Positive text))

abbrev pub unit_reading : ReaderTexts → List ℕ → PlainReading
unit_reading r text = cond (is_unit_readable_by r) (any_reading r text) unreadable
