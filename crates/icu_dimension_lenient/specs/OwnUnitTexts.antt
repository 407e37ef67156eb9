-- Whether a text is what a formatter writes of a number with its unit, under any grouping.
-- Defined in docs/units.md, "Lenient reading".
-- Cited by `LenientUnitReader::own_text`, and by the reading in turn of `locale_numbers_formatter`.
use Rattle.std.specs.Prelude.{ℕ, Bool, ◌||◌, List}
use Rattle.std.specs.Str.{bytes_eq}
use Rattle.fixed_decimal.specs.Number.{Number}
use Rattle.fixed_decimal.specs.SignedValue.{SignedValue}
use Rattle.icu_decimal_symbols.specs.declared.options.GroupingStrategy.{GroupingStrategy}
use Rattle.icu_decimal_symbols.specs.declared.options.GroupingStrategy.TheVariants.{Never, Always, Min2, OnAligned}
use Rattle.icu_decimal_lenient.specs.LenientReading.{under}
use Rattle.icu_dimension_affixes.specs.UnitReading.{ReaderTexts, text_by}

-- the same reader under another grouping
abbrev pub reader_under : GroupingStrategy → ReaderTexts → ReaderTexts
reader_under strategy r = record { tables = under strategy r.tables; pairs = r.pairs }

-- this is the text of the decimal with its unit
abbrev pub is_unit_text_of : ReaderTexts → List ℕ → SignedValue Number → Bool
is_unit_text_of r text v = bytes_eq (text_by r v) text

-- under any grouping: `Auto` writes it as `Always` does
abbrev pub is_own_unit_text : ReaderTexts → List ℕ → SignedValue Number → Bool
is_own_unit_text r text v =
    is_unit_text_of (reader_under Never r) text v
    || (is_unit_text_of (reader_under Always r) text v || (is_unit_text_of (reader_under Min2 r) text v || is_unit_text_of (reader_under OnAligned r) text v))
