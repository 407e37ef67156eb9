-- What is read with a unit is written again, and what was written with one reads back: `specs/UnitLaws.antt`.
use Rattle.std.proofs.Common.{◌≡◌, ℕ, true, cond, List, ◌++◌, ◌||◌, None, Some, Result, Ok, Err, refl, sym, ap, ◌∙◌, subst, arith}
use Rattle.std.proofs.lemmas.List.{append-nil}
use Rattle.std.proofs.lemmas.Str.{IsUtf8-append}
use Rattle.std.specs.Str.{IsUtf8}
use Rattle.fixed_decimal.specs.Number.{Number}
use Rattle.fixed_decimal.specs.SignedText.{ReadsSigned, signed_text_of}
use Rattle.fixed_decimal.specs.SignedValue.{SignedValue}
use Rattle.fixed_decimal.specs.TextLaws.{IsDecimal}
use Rattle.fixed_decimal.specs.declared.Sign.TheVariants.{None as NoSign}
use Rattle.fixed_decimal.proofs.SignedReadOnceLemmas.{signed_printed}
use Rattle.icu_decimal.specs.PlainReading.{PlainReading, decimal, not_written, unreadable}
use Rattle.icu_decimal.specs.PlainText.{unsigned_text}
use Rattle.icu_decimal.specs.ReadingLaws.{TextsAreUtf8}
use Rattle.icu_decimal.specs.declared.error.DataError.{DataError}
use Rattle.icu_decimal.specs.declared.options.GroupingStrategy.{GroupingStrategy}
use Rattle.icu_dimension.specs.NativeUnitLaws.{HasOneExactReading}
use Rattle.icu_dimension.specs.UnitReading.{AreReaderTexts, IsUnitText, is_unit_readable_by, pair_for, reader_texts}
use Rattle.icu_dimension.specs.UnitReadingLaws.{ReadersReadWhatIsWritten}
use Rattle.icu_dimension.specs.UnitReadings.{unit_reading}
use Rattle.icu_dimension.specs.UnitText.{UnitSettings, unit_decimal_text}
use Rattle.icu_dimension.specs.declared.PercentSign.{PercentSign}
use Rattle.icu_locale_core.specs.TagPreferences.{Preferences}
use Rattle.locale_numbers_answers.specs.Answers.{answer_by, read_found, written_found, written_to}
use Rattle.locale_numbers_answers.specs.Laws.{ChoosesNone, FitDecimals, IsAtMagnitude}
use Rattle.locale_numbers_answers.specs.NumberReading.{number, reading_of}
use Rattle.locale_numbers_answers.specs.ReadAnswer.{fraction_asked, is_own_rounding, own_reading, read_answer}
use Rattle.locale_numbers_answers.proofs.NumberBounds.{changed_is_decimal, reading_is_decimal}
use Rattle.locale_numbers_answers.proofs.NumberReadingLemmas.{signed_number}
use Rattle.locale_numbers_answers.proofs.UnitLemmas.{own_of_changed, own_parts, own_stays}
use Rattle.locale_numbers_book.specs.Book.{BookTables}
use Rattle.locale_numbers_book.specs.FoundFormats.{found_for, mapped, percent_options}
use Rattle.locale_numbers_book.specs.TagFormatters.{percent_found_in}
use Rattle.locale_numbers_formats.specs.Changed.{changed}
use Rattle.locale_numbers_formats.specs.declared.NumberUnit.{NumberUnit}
use Rattle.locale_numbers_formats.specs.declared.NumberUnit.TheVariants as unit
use Rattle.locale_numbers_formats.specs.declared.Rounding.{Rounding}
use Rattle.locale_numbers_formats.specs.declared.Rounding.TheVariants.{Usual, Cash, AsGiven, At, Significant, Either}
use Rattle.locale_numbers_formats.specs.declared.SignAsked.TheVariants.{Keep}
use Rattle.locale_numbers_formatter.specs.FormatText.{UnitFormat, unit_tables}
use Rattle.locale_numbers_formatter.specs.HeldFormats.{percent_format}
use Rattle.locale_numbers_requests.specs.Request.{Asked}
use Rattle.locale_numbers_requests.specs.RoundingField.{is_cash, keeps_digits}
use Rattle.locale_numbers_requests.specs.declared.Refusal.TheVariants as refusal
use Rattle.locale_numbers_requests.specs.declared.Task.TheVariants.{Write}
use Rattle.locale_numbers.specs.Answer.{answer_asked, answer_tagged, plural_rules_for, second_for, written}
use Rattle.locale_numbers.specs.AskedFormats.{grouping_in, options_of, shape_with}
use Rattle.locale_numbers.specs.UnitLaws.{AreFoundTexts, FindsUnit, FoundUnitsAreTexts, HasSign, known, loaded, ReadUnitIsWrittenAgain, TakesRounding, WrittenPercentReadsBack, WrittenUnitIsUtf8, WrittenUnitReadsBack, unit_reading_request, unit_request}
use Rattle.locale_numbers.proofs.ReadingTrips.{one_text, plain_options, refused_no}

-- ---- the rounding that a reading form takes

usual : (of : NumberUnit) (rounding : Rounding) → TakesRounding of rounding → (keeps_digits rounding || is_cash rounding) ≡ true
usual of Usual takes = refl
usual of Cash takes = refl
usual unit.None _ takes = absurd (cc)
usual (unit.Percent sign) _ takes = absurd (cc)
usual (unit.Currency currency) _ takes = absurd (cc)

at_magnitude : (rounding : Rounding) → (keeps_digits rounding || is_cash rounding) ≡ true → IsAtMagnitude rounding
at_magnitude Usual takes = tt
at_magnitude Cash takes = tt
at_magnitude _ takes = absurd (cc)

chooses_none : (rounding : Rounding) → (keeps_digits rounding || is_cash rounding) ≡ true → ChoosesNone rounding
chooses_none Usual takes = tt
chooses_none Cash takes = tt
chooses_none AsGiven takes = tt
chooses_none (At position mode increment) takes = tt
chooses_none (Significant digits mode) takes = absurd (cc)
chooses_none (Either priority position digits mode) takes = absurd (cc)

fitting : (rounding : Rounding) → (keeps_digits rounding || is_cash rounding) ≡ true → FitDecimals (options_of rounding Keep)
fitting rounding takes = record { position = at_magnitude rounding takes; integer = omega arith }

-- ---- texts

texts_by : FoundUnitsAreTexts → (book : BookTables) (asked : Asked) (of : NumberUnit) (found : UnitFormat) (p : Preferences) → found_for (shape_with of (grouping_in asked)) book p ≡ Ok (unit_tables found)
    → AreFoundTexts book of found → AreReaderTexts (reader_texts found.settings)
texts_by all book asked of found p is (loaded value loads coded) = all value book loads of p (grouping_in asked) found coded is
texts_by all book asked of found p is (known texts) = texts

-- ---- what was read

-- what a text is read as, under a rounding
abbrev reading_under : UnitFormat → Rounding → List ℕ → PlainReading
reading_under found rounding text = own_reading (fraction_asked found.fractions rounding) (unit_reading (reader_texts found.settings) text)

-- what was read of a text that has an answer
record IsReadWithUnit (found : UnitFormat) (rounding : Rounding) (text digits : List ℕ) : Type 0 where
  value : SignedValue Number
  is : reading_under found rounding text ≡ decimal value
  printed : signed_text_of value ≡ digits

read_by : (found : UnitFormat) (rounding : Rounding) (text digits : List ℕ) (reading : PlainReading) → reading_under found rounding text ≡ reading → read_answer reading ≡ written digits
    → IsReadWithUnit found rounding text digits
read_by found rounding text digits unreadable is same = absurd (refused_no refusal.Unreadable digits same)
read_by found rounding text digits not_written is same = absurd (refused_no refusal.NotWritten digits same)
read_by found rounding text digits (decimal value) is same = record { value = value; is = is; printed = one_text (signed_text_of value) digits same }

module _ (book : BookTables) (asked : Asked) (of : NumberUnit) (found : UnitFormat) (finds : FindsUnit book asked of found) where
  read_is : (rounding : Rounding) (text : List ℕ) → answer_asked book (Some (unit_reading_request asked of rounding text)) ≡ read_answer (reading_under found rounding text)
  read_is rounding text =
      ap (λ p. answer_tagged book p (unit_reading_request asked of rounding text)) finds.tag
      ∙ ap (λ f. read_found f rounding text) finds.found

  written_is : (rounding : Rounding) (digits : List ℕ) (value : SignedValue Number) → reading_of digits ≡ number value
      → answer_asked book (Some (unit_request asked of rounding digits)) ≡ written (unit_decimal_text found.settings (changed (options_of rounding Keep) found.fractions value))
  written_is rounding digits value is =
      ap (λ p. answer_tagged book p (unit_request asked of rounding digits)) finds.tag
      ∙ ap (written_to (found_for (shape_with of (grouping_in asked)) book finds.preferences) (options_of rounding Keep)) is
      ∙ ap (λ f. written_found f (options_of rounding Keep) value) finds.found

  -- the answer to the request itself
  answered_is : (value : SignedValue Number) → asked.task ≡ Write → asked.format.shape ≡ shape_with of (grouping_in asked) → reading_of asked.text ≡ number value
      → answer_asked book (Some asked) ≡ written (unit_decimal_text found.settings (changed asked.format.options found.fractions value))
  answered_is value task shape reads =
      ap (λ p. answer_tagged book p asked) finds.tag
      ∙ ap (λ t. answer_by t asked.format (found_for asked.format.shape book finds.preferences) (second_for asked.format.shape book finds.preferences)
      (λ rule_type. plural_rules_for rule_type book finds.preferences) asked.text) task
      ∙ ap (λ s. written_to (found_for s book finds.preferences) asked.format.options (reading_of asked.text)) shape
      ∙ ap (written_to (found_for (shape_with of (grouping_in asked)) book finds.preferences) asked.format.options) reads
      ∙ ap (λ f. written_found f asked.format.options value) finds.found

  -- what is found is made of texts
  pub texts_found : FoundUnitsAreTexts → AreReaderTexts (reader_texts found.settings)
  texts_found all = texts_by all book asked of found finds.preferences finds.found finds.texts

  -- the text of what was read
  text_read : FoundUnitsAreTexts → HasOneExactReading → (text : List ℕ) (value : SignedValue Number) → unit_reading (reader_texts found.settings) text ≡ decimal value → IsUnitText (reader_texts found.settings) text value
  text_read all one text value is = ((one (reader_texts found.settings) text (decimal value) (texts_found all)).1 (sym is)).1

-- ---- the laws

pub read_unit_again : FoundUnitsAreTexts → HasOneExactReading → ReadersReadWhatIsWritten → ReadUnitIsWrittenAgain
read_unit_again all one readers book asked of found rounding text digits finds takes same =
    let read = read_by found rounding text digits (reading_under found rounding text) refl (sym (read_is book asked of found finds rounding text) ∙ same) in
    let parts = own_parts (fraction_asked found.fractions rounding) (unit_reading (reader_texts found.settings) text) read.value read.is in
    let is = text_read book asked of found finds all one text read.value parts.0 in
    let sent : reading_of digits ≡ number read.value = signed_number digits read.value (subst (λ t. ReadsSigned t read.value) read.printed (signed_printed read.value is.decimal)) in
    let kept = usual of rounding takes in
    written_is book asked of found finds rounding digits read.value sent
    ∙ ap (λ v. written (unit_decimal_text found.settings v))
    (own_stays (options_of rounding Keep) found.fractions read.value (plain_options rounding Keep (chooses_none rounding kept)) refl (fitting rounding kept) is.decimal kept parts.1)
    ∙ ap written (sym (readers found.settings read.value) ∙ is.written)

-- what a line writes reads back under a rounding that leaves it as it is
reads_back_under : FoundUnitsAreTexts → HasOneExactReading → ReadersReadWhatIsWritten → (book : BookTables) (asked : Asked) (of : NumberUnit) (found : UnitFormat) (value : SignedValue Number) (text : List ℕ) (rounding : Rounding)
    → asked.task ≡ Write → asked.format.shape ≡ shape_with of (grouping_in asked) → FitDecimals asked.format.options → FindsUnit book asked of found
    → is_unit_readable_by (reader_texts found.settings) ≡ true → reading_of asked.text ≡ number value
    → answer_asked book (Some asked) ≡ written text
    → is_own_rounding (fraction_asked found.fractions rounding) (changed asked.format.options found.fractions value) ≡ true
    → answer_asked book (Some (unit_reading_request asked of rounding text)) ≡ written (signed_text_of (changed asked.format.options found.fractions value))
reads_back_under all one readers book asked of found value text rounding task shape fits finds readable reads same own =
    let shown : SignedValue Number = changed asked.format.options found.fractions value in
    let whole : IsDecimal shown = changed_is_decimal asked.format.options found.fractions value fits (reading_is_decimal asked.text value reads) in
    let said : unit_decimal_text found.settings shown ≡ text = one_text (unit_decimal_text found.settings shown) text (sym (answered_is book asked of found finds value task shape reads) ∙ same) in
    let read : unit_reading (reader_texts found.settings) text ≡ decimal shown =
    sym ((one (reader_texts found.settings) text (decimal shown) (texts_found book asked of found finds all)).0 (readable, record { decimal = whole; written = readers found.settings shown ∙ said })) in
    read_is book asked of found finds rounding text
    ∙ ap (λ reading. read_answer (own_reading (fraction_asked found.fractions rounding) reading)) read
    ∙ ap (λ b. read_answer (cond b (decimal shown) not_written)) own

pub unit_reads_back : FoundUnitsAreTexts → HasOneExactReading → ReadersReadWhatIsWritten → WrittenUnitReadsBack
unit_reads_back all one readers book asked of found value text task shape nothing fits takes finds readable reads same =
    reads_back_under all one readers book asked of found value text asked.format.options.rounding task shape fits finds readable reads same
    (own_of_changed asked.format.options found.fractions value nothing fits (reading_is_decimal asked.text value reads))

-- a sign has no digits of a currency
no_digits : (of : PercentSign) (settings : Result UnitSettings DataError) (found : UnitFormat) → mapped (λ s. unit_tables (percent_format of s)) settings ≡ Ok (unit_tables found) → found.fractions ≡ None
no_digits of (Ok settings) found is =
    let one : percent_format of settings ≡ found = cc in
    ap (λ (f : UnitFormat). f.fractions) (sym one)
no_digits of (Err error) found is = absurd (cc)

signs_have_none : (of : NumberUnit) → HasSign of → (book : BookTables) (p : Preferences) (grouping : GroupingStrategy) (found : UnitFormat) → found_for (shape_with of grouping) book p ≡ Ok (unit_tables found)
    → found.fractions ≡ None
signs_have_none unit.None signed book p grouping found is = absurd signed
signs_have_none (unit.Percent sign) signed book p grouping found is = no_digits sign (percent_found_in book p (percent_options sign grouping)) found is
signs_have_none (unit.Currency currency) signed book p grouping found is = absurd signed

pub percent_reads_back : FoundUnitsAreTexts → HasOneExactReading → ReadersReadWhatIsWritten → WrittenPercentReadsBack
percent_reads_back all one readers book asked of found value text signed task shape fits finds readable reads same =
    let none : found.fractions ≡ None = signs_have_none of signed book finds.preferences (grouping_in asked) found finds.found in
    reads_back_under all one readers book asked of found value text Usual task shape fits finds readable reads same
    (ap (λ fractions. is_own_rounding (fraction_asked fractions Usual) (changed asked.format.options found.fractions value)) none)

unsigned_is_utf8 : TextsAreUtf8 → (found : UnitFormat) → AreReaderTexts (reader_texts found.settings) → (value : SignedValue Number) → IsDecimal value
    → IsUtf8 (unsigned_text found.settings.tables value.absolute)
unsigned_is_utf8 utf8 found texts value is =
    subst IsUtf8 (append-nil (unsigned_text found.settings.tables value.absolute)) (utf8 found.settings.tables (record { sign = NoSign; absolute = value.absolute }) texts.tables is)

pub unit_is_utf8 : FoundUnitsAreTexts → TextsAreUtf8 → ReadersReadWhatIsWritten → WrittenUnitIsUtf8
unit_is_utf8 all utf8 readers book asked of found value finds is =
    let texts = texts_found book asked of found finds all in
    let pair = pair_for (reader_texts found.settings).pairs value.sign in
    let number : List ℕ = unsigned_text found.settings.tables value.absolute in
    subst IsUtf8 (readers found.settings value) (
    IsUtf8-append pair.before (number ++ pair.after) (texts.before value.sign)
    (IsUtf8-append number pair.after (unsigned_is_utf8 utf8 found texts value is) (texts.after value.sign))
    )
