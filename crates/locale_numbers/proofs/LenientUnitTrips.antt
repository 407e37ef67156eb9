-- What is read with a unit is read leniently with it: `specs/LenientUnitLaws.antt`.
use Rattle.std.proofs.Common.{◌≡◌, ℕ, true, cond, List, Option, Some, None, Result, Ok, Err, refl, sym, ap, ◌∙◌}
use Rattle.std.proofs.lemmas.Bool.{and_parts}
use Rattle.fixed_decimal.specs.Number.{Number}
use Rattle.fixed_decimal.specs.SignedText.{signed_text_of}
use Rattle.fixed_decimal.specs.SignedValue.{SignedValue}
use Rattle.icu_decimal.specs.PlainReading.{PlainReading, decimal, not_written, unreadable}
use Rattle.icu_decimal.specs.LenientReading.{or_else}
use Rattle.icu_decimal.specs.declared.error.DataError.{DataError}
use Rattle.icu_decimal.specs.declared.options.GroupingStrategy.{GroupingStrategy}
use Rattle.icu_dimension.specs.GroupedUnitLaws.{EachUnitGroupingIsLenient, have_bare_ends}
use Rattle.icu_dimension.specs.LenientUnits.{LenientTexts, is_leniently_unit_readable_by, lenient_texts}
use Rattle.icu_dimension.specs.NativeUnitLaws.{HasOneExactReading, HasOneReadingByFunction}
use Rattle.icu_dimension.specs.NativeUnits.{lenient_unit_reading as dimension_reading}
use Rattle.icu_dimension.specs.OwnUnitTexts.{reader_under}
use Rattle.icu_dimension.specs.UnitReading.{AreReaderTexts, IsUnitText, ReaderTexts, is_unit_readable_by, reader_texts}
use Rattle.icu_dimension.specs.UnitReadings.{unit_reading}
use Rattle.icu_locale_core.specs.TagPreferences.{Preferences}
use Rattle.locale_numbers_answers.specs.Answers.{read_found, typed_found}
use Rattle.locale_numbers_answers.specs.ReadAnswer.{fraction_asked, own_reading, read_answer}
use Rattle.locale_numbers_answers.proofs.UnitLemmas.{own_parts}
use Rattle.locale_numbers_book.specs.Book.{BookTables}
use Rattle.locale_numbers_book.specs.FoundFormats.{amount_options, mapped, percent_options}
use Rattle.locale_numbers_book.specs.TagFormatters.{currency_found_in, percent_found_in}
use Rattle.locale_numbers_book.specs.Wanted.{wanted_of}
use Rattle.locale_numbers_formats.specs.declared.NumberUnit.{NumberUnit}
use Rattle.locale_numbers_formats.specs.declared.NumberUnit.TheVariants as unit
use Rattle.locale_numbers_formats.specs.declared.Rounding.{Rounding}
use Rattle.locale_numbers_formatter.specs.FormatText.{FormatTables, UnitFormat, unit_tables}
use Rattle.locale_numbers_formatter.specs.FormatTyped.{typed_unit, unit_in, units_in_turn}
use Rattle.locale_numbers_formatter.specs.HeldFormats.{currency_format, percent_format}
use Rattle.locale_numbers_formatter.specs.OwnUnitLaws.{OwnUnitTextIsFirsts}
use Rattle.locale_numbers_formatter.specs.TypedUnits.{lenient_unit_reading, typed_unit_by}
use Rattle.locale_numbers_formatter.proofs.LenientUnitLemmas.{in_turn_first, read_exactly}
use Rattle.locale_numbers_requests.specs.Request.{Asked}
use Rattle.locale_numbers_requests.specs.declared.Refusal.TheVariants as refusal
use Rattle.locale_numbers.specs.Answer.{answer_tagged, second_for, written}
use Rattle.locale_numbers.specs.AskedFormats.{grouping_in, shape_with}
use Rattle.locale_numbers.specs.LenientUnitLaws.{EachUnitGroupingIsReadLeniently, HasNoOtherWay, ReadUnitIsReadLeniently, lenient_unit_request}
use Rattle.locale_numbers.specs.UnitLaws.{FoundUnitsAreTexts, HasUnit, unit_reading_request}
use Rattle.locale_numbers.proofs.ReadingTrips.{one_text, refused_no, regrouped_are}
use Rattle.locale_numbers.proofs.UnitTrips.{texts_found}

-- what was read of a text that has an answer
record IsReadAs (reading : PlainReading) (digits : List ℕ) : Type 0 where
  value : SignedValue Number
  is : reading ≡ decimal value
  printed : signed_text_of value ≡ digits

read_as : (reading : PlainReading) (digits : List ℕ) → read_answer reading ≡ written digits → IsReadAs reading digits
read_as unreadable digits same = absurd (refused_no refusal.Unreadable digits same)
read_as not_written digits same = absurd (refused_no refusal.NotWritten digits same)
read_as (decimal value) digits same = record { value = value; is = refl; printed = one_text (signed_text_of value) digits same }

read_leniently : {T : Type 0} (f : T → UnitFormat) (found : Result T DataError) (second : FormatTables → Option FormatTables) (rounding : Rounding) (text digits : List ℕ)
    → read_found (mapped (λ t. unit_tables (f t)) found) rounding text ≡ written digits → typed_found (mapped (λ t. unit_tables (f t)) found) second text ≡ written digits
read_leniently f (Err error) second rounding text digits same = absurd (refused_no refusal.Table digits same)
read_leniently f (Ok t) second rounding text digits same =
    let u = f t in
    let readers = units_in_turn u (unit_in (second (unit_tables u))) in
    let exactly = unit_reading (reader_texts u.settings) text in
    let read = read_as (own_reading (fraction_asked u.fractions rounding) exactly) digits same in
    let exact = (own_parts (fraction_asked u.fractions rounding) exactly read.value read.is).0 in
    ap read_answer (in_turn_first readers text read.value (read_exactly readers.first readers.second text read.value exact))
    ∙ ap written read.printed

read_found_so : (of : NumberUnit) → HasUnit of → (book : BookTables) (asked : Asked) (p : Preferences) (rounding other : Rounding) (text digits : List ℕ)
    → answer_tagged book (Some p) (unit_reading_request asked of rounding text) ≡ written digits → answer_tagged book (Some p) (lenient_unit_request asked of other text) ≡ written digits
read_found_so unit.None has book asked p rounding other text digits same = absurd has
read_found_so (unit.Percent sign) has book asked p rounding other text digits same =
    read_leniently (percent_format sign) (percent_found_in book p (percent_options sign (grouping_in asked))) (second_for (shape_with (unit.Percent sign) (grouping_in asked)) book p) rounding text digits same
read_found_so (unit.Currency currency) has book asked p rounding other text digits same =
    read_leniently (currency_format currency.code) (currency_found_in book p currency.code (amount_options currency (grouping_in asked)))
    (second_for (shape_with (unit.Currency currency) (grouping_in asked)) book p) rounding text digits same

read_tagged : (of : NumberUnit) → HasUnit of → (book : BookTables) (asked : Asked) (rounding other : Rounding) (wanted : Option Preferences) (text digits : List ℕ)
    → answer_tagged book wanted (unit_reading_request asked of rounding text) ≡ written digits → answer_tagged book wanted (lenient_unit_request asked of other text) ≡ written digits
read_tagged of has book asked rounding other None text digits same = absurd (refused_no refusal.Tag digits same)
read_tagged of has book asked rounding other (Some p) text digits same = read_found_so of has book asked p rounding other text digits same

pub read_unit_is_lenient : ReadUnitIsReadLeniently
read_unit_is_lenient book asked of rounding other text digits has same = read_tagged of has book asked rounding other (wanted_of asked.tag) text digits same

-- ---- under another grouping

regrouped_texts : (grouping : GroupingStrategy) (r : ReaderTexts) → AreReaderTexts r → AreReaderTexts (reader_under grouping r)
regrouped_texts grouping r texts = record { tables = regrouped_are grouping r.tables texts.tables; before = texts.before; after = texts.after }

module _ (found : UnitFormat) (grouping : GroupingStrategy) (text : List ℕ) (value : SignedValue Number) (texts : AreReaderTexts (reader_texts found.settings))
    (readable : is_leniently_unit_readable_by (lenient_texts found.settings found.code) ≡ true) (bare : have_bare_ends (lenient_texts found.settings found.code).folded.pairs ≡ true)
    (is : IsUnitText (reader_under grouping (reader_texts found.settings)) text value) where
  abbrev reader : ReaderTexts
  reader = reader_texts found.settings

  abbrev lenient : LenientTexts
  lenient = lenient_texts found.settings found.code

  exactly_readable : is_unit_readable_by reader ≡ true
  exactly_readable = (and_parts (is_unit_readable_by reader) _ readable).0

  -- with that grouping it is read exactly
  read_regrouped : HasOneExactReading → unit_reading (reader_under grouping reader) text ≡ decimal value
  read_regrouped one = sym ((one (reader_under grouping reader) text (decimal value) (regrouped_texts grouping reader texts)).0 (exactly_readable, is))

  -- and with the own one leniently
  read_lenient : EachUnitGroupingIsLenient → HasOneReadingByFunction → HasNoOtherWay found text value → dimension_reading lenient text ≡ decimal value
  read_lenient each one same =
      each reader found.settings.unit.text found.code grouping text value (dimension_reading lenient text) (record { texts = texts; readable = readable; bare = bare }) is same
      ((one lenient text (dimension_reading lenient text) texts exactly_readable).1 refl)

  -- a formatter has the folded texts where they are readable
  pub read_typed : EachUnitGroupingIsLenient → HasOneReadingByFunction → HasNoOtherWay found text value → lenient_unit_reading (typed_unit found) text ≡ decimal value
  unfolding lenient_unit_reading
  read_typed each one same =
      ap (λ b. or_else (unit_reading reader text) (typed_unit_by reader.tables (cond b (Some lenient.folded) None) text)) readable ∙ read_lenient each one same

pub each_unit_grouping : FoundUnitsAreTexts → HasOneExactReading → HasOneReadingByFunction → EachUnitGroupingIsLenient → OwnUnitTextIsFirsts → EachUnitGroupingIsReadLeniently
each_unit_grouping all exact one each own book asked of found rounding grouping text value finds readable bare is same =
    let second : FormatTables → Option FormatTables = second_for (shape_with of (grouping_in asked)) book finds.preferences in
    let texts = texts_found book asked of found finds all in
    ap (λ p. answer_tagged book p (lenient_unit_request asked of rounding text)) finds.tag
    ∙ ap (λ f. typed_found f second text) finds.found
    ∙ ap read_answer (own (units_in_turn found (unit_in (second (unit_tables found)))) grouping text value
    (read_regrouped found grouping text value texts readable bare is exact) (read_typed found grouping text value texts readable bare is each one same))
