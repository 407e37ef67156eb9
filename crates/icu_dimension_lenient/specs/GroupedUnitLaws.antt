-- Laws of what a formatter writes with a unit under another grouping, over the definitions alone.
-- Defined in docs/units.md, "Lenient reading".
-- Cited by the functions of `laws`.
use Rattle.std.specs.Prelude.{◌≡◌, ◌⊎◌, ℕ, Bool, true, ◌&&◌, List}
use Rattle.std.specs.Str.{bytes_eq, trim_end, trim_start}
use Rattle.fixed_decimal.specs.Number.{Number}
use Rattle.fixed_decimal.specs.SignedValue.{SignedValue}
use Rattle.fixed_decimal.specs.TextLaws.{IsDecimal}
use Rattle.icu_decimal_symbols.specs.declared.options.GroupingStrategy.{GroupingStrategy}
use Rattle.icu_decimal_reading.specs.DecimalOfText.{PlainReading, decimal, not_written}
use Rattle.icu_dimension_affixes.specs.UnitPatterns.{AffixPair}
use Rattle.icu_dimension_affixes.specs.UnitReading.{AreReaderTexts, IsUnitText, ReaderTexts, SignPairs, is_unit_readable_by, text_by}
use Rattle.icu_dimension_lenient.specs.Agreement.{DoDiffer, IsOneOf}
use Rattle.icu_dimension_lenient.specs.LenientUnits.{IsLenientUnitReading, is_leniently_unit_readable_by, texts_with, unit_ways}
use Rattle.icu_dimension_lenient.specs.OwnUnitTexts.{reader_under}

-- ---- folded affixes that stay whole where a text is trimmed

-- no white space is before the first one, and none after the other
abbrev pub has_bare_ends : AffixPair → Bool
has_bare_ends pair = bytes_eq (trim_start pair.before) pair.before && bytes_eq (trim_end pair.after) pair.after

-- of each sign
abbrev pub have_bare_ends : SignPairs → Bool
have_bare_ends pairs = has_bare_ends pairs.none && (has_bare_ends pairs.minus && has_bare_ends pairs.plus)

-- what texts are read leniently with, from the texts of a reader, a unit and a code: they are texts, and readable so, and no white space is at the ends of the folded affixes
pub record AreGroupedTexts (r : ReaderTexts) (unit code : List ℕ) : Type 0 where
  pub texts : AreReaderTexts r
  pub readable : is_leniently_unit_readable_by (texts_with r unit code) ≡ true
  pub bare : have_bare_ends (texts_with r unit code).folded.pairs ≡ true

-- ---- laws

-- under two groupings no two decimals share a text with their unit
abbrev pub UnitGroupingsHaveOneDecimal : Type 0
UnitGroupingsHaveOneDecimal = (r : ReaderTexts) (one other : GroupingStrategy) (a b : SignedValue Number)
    → AreReaderTexts r → is_unit_readable_by r ≡ true → IsDecimal a → IsDecimal b
    → text_by (reader_under one r) a ≡ text_by (reader_under other r) b → a ≡ b

-- the ways in which a text is read
abbrev pub ways_with : ReaderTexts → List ℕ → List ℕ → List ℕ → List PlainReading
ways_with r unit code text = unit_ways r.tables (texts_with r unit code).folded text

-- one way reads what is written under any grouping as the decimal that it is
abbrev pub EachUnitGroupingIsOneWay : Type 0
EachUnitGroupingIsOneWay = (r : ReaderTexts) (unit code : List ℕ) (strategy : GroupingStrategy) (text : List ℕ) (v : SignedValue Number)
    → AreGroupedTexts r unit code → IsUnitText (reader_under strategy r) text v → IsOneOf (ways_with r unit code text) v

-- so it is read leniently as this decimal, where no way reads another one
abbrev pub EachUnitGroupingIsLenient : Type 0
EachUnitGroupingIsLenient = (r : ReaderTexts) (unit code : List ℕ) (strategy : GroupingStrategy) (text : List ℕ) (v : SignedValue Number) (reading : PlainReading)
    → AreGroupedTexts r unit code → IsUnitText (reader_under strategy r) text v
    → ((w : SignedValue Number) → IsOneOf (ways_with r unit code text) w → w ≡ v)
    → IsLenientUnitReading (texts_with r unit code) text reading → reading ≡ decimal v

-- and as no other one: it is this decimal, or it is not read and two ways differ
abbrev pub EachUnitGroupingIsNoOther : Type 0
EachUnitGroupingIsNoOther = (r : ReaderTexts) (unit code : List ℕ) (strategy : GroupingStrategy) (text : List ℕ) (v : SignedValue Number) (reading : PlainReading)
    → AreGroupedTexts r unit code → IsUnitText (reader_under strategy r) text v
    → IsLenientUnitReading (texts_with r unit code) text reading
    → (reading ≡ decimal v) ⊎ ((reading ≡ not_written) × DoDiffer (ways_with r unit code text))
