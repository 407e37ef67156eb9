-- Laws of the formats with a unit and of what people type, over the definitions alone.
-- Defined in docs/requests.md, "Answer line".
-- Cited by the functions of `laws`.
-- A line reads by what is found in a book, and these are definitions of three members.
use Rattle.std.specs.Prelude.{◌≡◌, ℕ, true, List, Some}
use Rattle.fixed_decimal.specs.Number.{Number}
use Rattle.fixed_decimal.specs.SignedText.{signed_text_of}
use Rattle.fixed_decimal.specs.SignedValue.{SignedValue}
use Rattle.icu_decimal.specs.declared.options.GroupingStrategy.{GroupingStrategy}
use Rattle.icu_dimension.specs.Agreement.{IsOneOf}
use Rattle.icu_dimension.specs.GroupedUnitLaws.{have_bare_ends, ways_with}
use Rattle.icu_dimension.specs.LenientUnits.{is_leniently_unit_readable_by, lenient_texts}
use Rattle.icu_dimension.specs.OwnUnitTexts.{reader_under}
use Rattle.icu_dimension.specs.UnitReading.{IsUnitText, reader_texts}
use Rattle.locale_numbers_book.specs.Book.{BookTables}
use Rattle.locale_numbers_formats.specs.declared.NumberUnit.{NumberUnit}
use Rattle.locale_numbers_formats.specs.declared.Rounding.{Rounding}
use Rattle.locale_numbers_formats.specs.declared.SignAsked.TheVariants.{Keep}
use Rattle.locale_numbers_formatter.specs.FormatText.{UnitFormat}
use Rattle.locale_numbers_requests.specs.Request.{Asked}
use Rattle.locale_numbers_requests.specs.declared.Task.TheVariants.{ReadLenient}
use Rattle.locale_numbers.specs.Answer.{answer_asked, written}
use Rattle.locale_numbers.specs.AskedFormats.{grouping_in, options_of, request_like, shape_with}
use Rattle.locale_numbers.specs.UnitLaws.{FindsUnit, HasUnit, unit_reading_request}

-- the request that reads a typed text with a unit, with the tag and the grouping of another
abbrev pub lenient_unit_request : Asked → NumberUnit → Rounding → List ℕ → Asked
lenient_unit_request asked unit rounding text = request_like asked ReadLenient (shape_with unit (grouping_in asked)) (options_of rounding Keep) text

-- a text that is read exactly is read leniently, with the same answer, whatever the roundings
abbrev pub ReadUnitIsReadLeniently : Type 0
ReadUnitIsReadLeniently = (book : BookTables) (asked : Asked) (unit : NumberUnit) (rounding other : Rounding) (text digits : List ℕ)
    → HasUnit unit
    → answer_asked book (Some (unit_reading_request asked unit rounding text)) ≡ written digits
    → answer_asked book (Some (lenient_unit_request asked unit other text)) ≡ written digits

-- no way reads a text as another number than this one
abbrev pub HasNoOtherWay : UnitFormat → List ℕ → SignedValue Number → Type 0
HasNoOtherWay found text value =
    (other : SignedValue Number) → IsOneOf (ways_with (reader_texts found.settings) found.settings.unit.text found.code text) other → other ≡ value

-- what is found writes under any grouping is read leniently as the number that was written, where texts can be read so, no white space is at the ends of the folded affixes, and no way reads another number
abbrev pub EachUnitGroupingIsReadLeniently : Type 0
EachUnitGroupingIsReadLeniently = (book : BookTables) (asked : Asked) (unit : NumberUnit) (found : UnitFormat) (rounding : Rounding) (grouping : GroupingStrategy) (text : List ℕ) (value : SignedValue Number)
    → FindsUnit book asked unit found → is_leniently_unit_readable_by (lenient_texts found.settings found.code) ≡ true
    → have_bare_ends (lenient_texts found.settings found.code).folded.pairs ≡ true
    → IsUnitText (reader_under grouping (reader_texts found.settings)) text value → HasNoOtherWay found text value
    → answer_asked book (Some (lenient_unit_request asked unit rounding text)) ≡ written (signed_text_of value)
