-- What a format writes is the text that its reader reads, and is read back.
use Rattle.std.proofs.Common.{◌≡◌, ℕ, true, List, Option, None, Some, refl, sym, ap, ◌∙◌}
use Rattle.std.proofs.lemmas.Bool.{false≢true}
use Rattle.std.specs.Prelude.{IfOk, IsErrOf, Result, Ok, Err}
use Rattle.fixed_decimal.specs.Number.{Number}
use Rattle.fixed_decimal.specs.SignedValue.{SignedValue}
use Rattle.fixed_decimal.specs.declared.Sign.{Sign}
use Rattle.fixed_decimal.specs.declared.Sign.TheVariants.{None as NoSign, Negative, Positive}
use Rattle.icu_decimal.specs.PlainReading.{IsAnswered, decimal, not_written}
use Rattle.icu_decimal.specs.PlainText.{PlainNumber, Tables, unsigned_text}
use Rattle.icu_decimal.specs.declared.error.ReadError.{ReadError}
use Rattle.icu_decimal.specs.declared.error.ReadError.TheVariants.{Unreadable, NotWritten, Memory}
use Rattle.icu_decimal_scientific.specs.ExponentialText.{scientific_text}
use Rattle.icu_decimal_scientific.specs.Scientific.{ScientificParts}
use Rattle.icu_decimal_scientific.specs.ScientificReadingsLaws.{ReadFormIsWrittenAgain, shown_as}
use Rattle.icu_decimal_scientific.specs.ShownLaws.{NormalReadsBack}
use Rattle.icu_dimension.specs.UnitPatterns.{AffixPair}
use Rattle.icu_dimension.specs.UnitReading.{AreReaderTexts, HasNoDecimal, IsUnitText, ReaderTexts, is_unit_readable_by, pair_for, text_by}
use Rattle.icu_dimension.specs.UnitReadingLaws.{WrittenUnitReadsBack}
use Rattle.icu_dimension.specs.UnitText.{text_between}
use Rattle.writeable.specs.AnnotatedText.{bytes}
use Rattle.locale_numbers_formatter.specs.JoinedUnit.{JoinedNumber, joined_events}
use Rattle.icu_dimension_lenient.specs.NativeUnitLaws.{HasOneExactReading}
use Rattle.icu_dimension_lenient.specs.UnitReadings.{unit_reading}
use Rattle.locale_numbers_formatter.proofs.JoinedUnitLemmas.{joined_is_partless, joined_is_read}
use Rattle.icu_dimension_lenient.proofs.UnitReadingsLemmas.{unit_written_again}
use Rattle.locale_numbers_formatter.specs.FormatReading.{FormatReader, NotationTexts, format_reading, notation_reading, notation_texts, pairs_reader, reader_of, reading_by_reader, reads_between, reads_notation}
use Rattle.locale_numbers_formatter.specs.FormatText.{FormatTables, ScientificFormat, compact_tables, digit_tables, digits_tables, form_shown, form_with_power, format_text, pair_in, plain_tables, scientific_tables, text_of_shown, unit_tables}
use Rattle.locale_numbers_formatter.specs.ReadingLaws.{FormatReadIsWrittenAgain, FormatReadsBack, ScientificFormIsWritten, ScientificReadsBack}

-- the pair of a sign
pair_is : (f : FormatTables) (sign : Sign) → pair_for (pairs_reader f).pairs sign ≡ pair_in f sign
pair_is f NoSign = refl
pair_is f Negative = refl
pair_is f Positive = refl

between_is : (f : FormatTables) (v : SignedValue Number) → text_by (pairs_reader f) v ≡ text_between (pair_in f v.sign) (unsigned_text (digit_tables f) v.absolute)
between_is f v = ap (λ pair. text_between pair (unsigned_text (digit_tables f) v.absolute)) (pair_is f v.sign)

-- the texts between affixes of a reader
texts_between : Option FormatReader → ReaderTexts → ReaderTexts
texts_between None other = other
texts_between (Some (reads_between r)) other = r
texts_between (Some (reads_notation n)) other = other

same_texts : (a b : ReaderTexts) → Some (reads_between a) ≡ Some (reads_between b) → b ≡ a
unfolding texts_between
same_texts a b is = sym (ap (λ k. texts_between k a) is)

no_texts : (n : NotationTexts) (r : ReaderTexts) → Some (reads_notation n) ≡ Some (reads_between r) → ⊥
no_texts n r is = cc

no_reader : (r : FormatReader) → None ≡ Some r → ⊥
no_reader r is = cc

-- what a format writes that has a reader
pub text_is_read : (f : FormatTables) (r : ReaderTexts) (v : SignedValue Number) → reader_of f ≡ Some (reads_between r) → text_by r v ≡ format_text f v
text_is_read (plain_tables t) r v is =
    let same : r ≡ pairs_reader (plain_tables t) = same_texts (pairs_reader (plain_tables t)) r is in
    ap (λ k. text_by k v) same ∙ between_is (plain_tables t) v
text_is_read (compact_tables t) r v is = absurd (no_reader (reads_between r) is)
text_is_read (digits_tables t o) r v is = absurd (no_reader (reads_between r) is)
text_is_read (unit_tables u) r v is =
    let same : r ≡ pairs_reader (unit_tables u) = same_texts (pairs_reader (unit_tables u)) r is in
    ap (λ k. text_by k v) same ∙ between_is (unit_tables u) v
text_is_read (scientific_tables s) r v is = absurd (no_texts (notation_texts s) r is)

read_by : (f : FormatTables) (r : ReaderTexts) (text : List ℕ) → reader_of f ≡ Some (reads_between r) → format_reading f text ≡ unit_reading r text
read_by f r text is = ap (λ k. reading_by_reader k text) is

pub reads_back : HasOneExactReading → WrittenUnitReadsBack → FormatReadsBack
reads_back one back f r v is texts readable decimal_is =
    let text = format_text f v in
    let same : text_by r v ≡ text = text_is_read f r v is in
    read_by f r text is
    ∙ ap (unit_reading r) (sym same)
    ∙ back r v (unit_reading r (text_by r v)) texts readable decimal_is ((one r (text_by r v) (unit_reading r (text_by r v)) texts).1 refl)

pub written_again : FormatReadIsWrittenAgain
written_again (plain_tables t) text v joined is = sym (text_is_read (plain_tables t) (pairs_reader (plain_tables t)) v refl) ∙ unit_written_again (pairs_reader (plain_tables t)) text v is
written_again (compact_tables t) text v joined is = absurd (false≢true joined)
written_again (digits_tables t o) text v joined is = absurd (false≢true joined)
written_again (unit_tables u) text v joined is = sym (text_is_read (unit_tables u) (pairs_reader (unit_tables u)) v refl) ∙ unit_written_again (pairs_reader (unit_tables u)) text v is
written_again (scientific_tables s) text v joined is = absurd (false≢true joined)

-- ---- in scientific notation

-- the text of a form is that of its significand and its exponent
form_text : (s : ScientificFormat) (form : ScientificParts) → scientific_text s.settings (shown_as s.style.exponents form) ≡ text_of_shown (form_with_power s form)
form_text s form = refl

pub scientific_back : NormalReadsBack → ScientificReadsBack
scientific_back back s d are readable few is =
    ap (notation_reading (notation_texts s)) (sym (form_text s (form_shown s d)))
    ∙ back s.settings s.style.notation s.style.exponents (form_shown s d) are readable few is

pub form_is_written : ReadFormIsWrittenAgain → ScientificFormIsWritten
form_is_written again s text d are reads =
    let is = again s.settings s.style.notation s.style.exponents text d are reads in
    record { form = is.form; normal = is.normal; written = sym (form_text s is.form) ∙ is.written; is = is.is }

-- what a readable reader of texts with a unit answers
pub unit_answered : HasOneExactReading → (r : ReaderTexts) (text : List ℕ) (result : Result (SignedValue Number) ReadError) → AreReaderTexts r → is_unit_readable_by r ≡ true
    → (IsErrOf result Unreadable → ⊥) → (IsErrOf result NotWritten → HasNoDecimal r text) → IfOk result (λ v. IsUnitText r text v) → IsAnswered result (unit_reading r text)
unit_answered one r text (Ok v) texts readable never missing is = sym ((one r text (decimal v) texts).0 (readable, is))
unit_answered one r text (Err Unreadable) texts readable never missing is = absurd (never refl)
unit_answered one r text (Err NotWritten) texts readable never missing is = sym ((one r text not_written texts).0 (readable, missing refl))
unit_answered one r text (Err Memory) texts readable never missing is = tt

-- what is written between the affixes of a reader, text by text, is the text that it reads
pub joined_text_is : (r : ReaderTexts) (v : SignedValue Number) (tables : Tables) (number : PlainNumber) (pair : AffixPair) → tables ≡ r.tables
    → number ≡ record { number = v.absolute; tables = tables } → pair ≡ pair_for r.pairs v.sign
    → joined_events (record { number = number; affixes = pair }) ≡ bytes (text_by r v)
joined_text_is r v tables number pair same is between =
    let whole : PlainNumber = record { number = v.absolute; tables = r.tables } in
    let joined : JoinedNumber = record { number = whole; affixes = pair_for r.pairs v.sign } in
    ap (λ n. joined_events (record { number = n; affixes = pair })) (is ∙ ap (λ t. record { number = v.absolute; tables = t }) same)
    ∙ ap (λ p. joined_events (record { number = whole; affixes = p })) between
    ∙ sym (joined_is_partless joined)
    ∙ ap bytes (joined_is_read r v)
