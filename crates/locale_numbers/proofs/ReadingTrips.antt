-- What is read back is written again, and what was written reads back: `specs/Laws.antt`.
use Rattle.std.proofs.Common.{◌≡◌, ℕ, List, drop, get_or, Option, Some, None, Result, Ok, Err, refl, sym, ap, ◌∙◌, subst, arith}
use Rattle.fixed_decimal.specs.Number.{Number}
use Rattle.fixed_decimal.specs.SignedText.{ReadsSigned, signed_text_of}
use Rattle.fixed_decimal.specs.SignedValue.{SignedValue}
use Rattle.fixed_decimal.specs.TextLaws.{IsDecimal}
use Rattle.fixed_decimal.proofs.SignedReadOnceLemmas.{signed_printed}
use Rattle.icu_decimal.specs.declared.error.DataError.{DataError}
use Rattle.icu_decimal.specs.declared.options.GroupingStrategy.{GroupingStrategy}
use Rattle.icu_decimal.specs.Choice.{first_found}
use Rattle.icu_decimal.specs.FoundTables.{with_digits, with_symbols}
use Rattle.icu_decimal.specs.Identifiers.{digits_identifiers, symbols_identifiers}
use Rattle.icu_decimal.specs.LenientLaws.{under}
use Rattle.icu_decimal.specs.PlainReading.{IsPlainText, PlainReading, decimal, not_written, plain_reading, unreadable}
use Rattle.icu_decimal.specs.PlainText.{Tables, decimal_text}
use Rattle.icu_decimal.specs.ReadingLaws.{AreTables, HasOneReading as HasOnePlainReading, ReadIsWrittenAgain as TextIsWrittenAgain, TextsHaveOneDecimal, WrittenReadsBack as TextReadsBack}
use Rattle.icu_decimal.specs.Symbols.{Symbols}
use Rattle.icu_locale_core.specs.TagPreferences.{Preferences}
use Rattle.locale_numbers_answers.specs.Answers.{answer_by, read_found, typed_found, written_found, written_to}
use Rattle.locale_numbers_answers.specs.NumberReading.{Reading, beyond, nothing, number, reading_of}
use Rattle.locale_numbers_answers.specs.ReadAnswer.{own_reading, read_answer}
use Rattle.locale_numbers_answers.specs.Laws.{ChoosesNone}
use Rattle.locale_numbers_answers.proofs.NumberBounds.{changed_again, changed_is_decimal, reading_is_decimal}
use Rattle.locale_numbers_answers.proofs.NumberReadingLemmas.{signed_number}
use Rattle.locale_numbers_book.specs.Book.{BookTables}
use Rattle.locale_numbers_book.specs.FoundFormats.{found_for, mapped}
use Rattle.locale_numbers_book.specs.Tables.{chain_in, digits_under, symbols_under}
use Rattle.locale_numbers_book.specs.TagFormatters.{found_plain}
use Rattle.locale_numbers_book.specs.Wanted.{wanted_of}
use Rattle.locale_numbers_formats.specs.Changed.{changed}
use Rattle.locale_numbers_formats.specs.declared.NumberOptions.{NumberOptions}
use Rattle.locale_numbers_formats.specs.declared.Rounding.{Rounding}
use Rattle.locale_numbers_formats.specs.declared.Rounding.TheVariants.{Usual}
use Rattle.locale_numbers_formats.specs.declared.SignAsked.{SignAsked}
use Rattle.locale_numbers_formats.specs.declared.SignAsked.TheVariants.{Keep}
use Rattle.locale_numbers_formatter.specs.FormatReading.{format_reading}
use Rattle.locale_numbers_formatter.specs.FormatText.{FormatTables, plain_tables}
use Rattle.locale_numbers_formatter.specs.FormatTyped.{plain_in}
use Rattle.locale_numbers_formatter.specs.ReadingLaws.{PlainReadsByPairs}
use Rattle.locale_numbers_formatter.specs.TypedPlain.{reading_by}
use Rattle.locale_numbers_formatter.proofs.LenientLemmas.{read_exactly, read_grouped}
use Rattle.locale_numbers_requests.specs.Request.{Asked}
use Rattle.locale_numbers_requests.specs.declared.Refusal.{Refusal}
use Rattle.locale_numbers_requests.specs.declared.Refusal.TheVariants as refusal
use Rattle.locale_numbers_requests.specs.declared.Task.TheVariants.{Write}
use Rattle.locale_numbers.specs.Answer.{answer_asked, answer_tagged, plural_rules_for, refused, second_for, written}
use Rattle.locale_numbers.specs.AskedFormats.{grouping_in, keeping, options_of, plain_shape}
use Rattle.locale_numbers.specs.Laws.{EachGroupingIsReadLeniently, FindsTables, FindsTexts, ReadIsReadLeniently, ReadIsWrittenAgain, RoundedIsWrittenAgain, TrimsNothing, WrittenReadsBack, grouped_by, lenient_request, plain_request, reading_request}
use Rattle.locale_numbers.proofs.FoundTexts.{in_plain}
use Rattle.locale_numbers.proofs.TextDigitsLemmas.{changes_amount}

-- ---- answers apart

-- a refusal is no text
pub refused_no : (cause : Refusal) (text : List ℕ) → refused cause ≡ written text → ⊥
refused_no cause text same = let bad : 101 ≡ 111 = ap (λ (t : List ℕ). get_or t 0 0) same in absurd (omega (arith, bad))

-- answers that hold texts hold one text
pub one_text : (a b : List ℕ) → written a ≡ written b → a ≡ b
one_text a b same = let rest : a ≡ b = ap (λ t. drop 3 t) same in rest

-- ---- other groupings

-- what is found under another grouping differs in nothing else
abbrev regrouped : GroupingStrategy → Result Tables DataError → Result Tables DataError
regrouped grouping (Ok tables) = Ok (under grouping tables)
regrouped grouping (Err error) = Err error

regrouped_digits : (one other : GroupingStrategy) (symbols : Symbols) (answer : Result (List ℕ) DataError)
    → with_digits other symbols answer ≡ regrouped other (with_digits one symbols answer)
regrouped_digits one other symbols (Ok digits) = refl
regrouped_digits one other symbols (Err error) = refl

regrouped_symbols : (one other : GroupingStrategy) (book : BookTables) (p : Preferences) (answer : Result Symbols DataError)
    → with_symbols other (digits_under book) p answer ≡ regrouped other (with_symbols one (digits_under book) p answer)
regrouped_symbols one other book p (Ok symbols) =
    regrouped_digits one other symbols (first_found (digits_under book) (digits_identifiers p.numbering_system symbols.strings.numsys))
regrouped_symbols one other book p (Err error) = refl

found_regrouped : (one other : GroupingStrategy) (book : BookTables) (p : Preferences)
    → found_plain book p (Some other) ≡ regrouped other (found_plain book p (Some one))
found_regrouped one other book p = regrouped_symbols one other book p (first_found (symbols_under book) (symbols_identifiers (chain_in book) p))

-- ---- requests whose tables are found

-- what was read of a text that has an answer
record IsRead (tables : Tables) (text digits : List ℕ) : Type 0 where
  value : SignedValue Number
  is : plain_reading tables text ≡ decimal value
  printed : signed_text_of value ≡ digits

read_by : (tables : Tables) (text digits : List ℕ) (reading : PlainReading) → plain_reading tables text ≡ reading → read_answer reading ≡ written digits → IsRead tables text digits
read_by tables text digits unreadable is same = absurd (refused_no refusal.Unreadable digits same)
read_by tables text digits not_written is same = absurd (refused_no refusal.NotWritten digits same)
read_by tables text digits (decimal value) is same = record { value = value; is = is; printed = one_text (signed_text_of value) digits same }

-- the number of a plain request that has an answer
record IsWritten (tables : Tables) (asked : Asked) (text : List ℕ) : Type 0 where
  value : SignedValue Number
  is : reading_of asked.text ≡ number value
  shown : decimal_text tables (changed asked.format.options None value) ≡ text

-- without digits of a currency each reading is one
no_digits : (r : PlainReading) → own_reading None r ≡ r
no_digits unreadable = refl
no_digits not_written = refl
no_digits (decimal v) = refl

-- the grouping is no part of what texts are
pub regrouped_are : (grouping : GroupingStrategy) (tables : Tables) → AreTables tables → AreTables (under grouping tables)
regrouped_are grouping tables are = record {
  ten = are.ten;
  digits = are.digits;
  minus_prefix = are.minus_prefix;
  minus_suffix = are.minus_suffix;
  plus_prefix = are.plus_prefix;
  plus_suffix = are.plus_suffix;
  point = are.point;
  group = are.group;
}

-- what is asked of plain numbers trims and pads nothing
pub plain_options : (rounding : Rounding) (sign : SignAsked) → ChoosesNone rounding → TrimsNothing (options_of rounding sign)
plain_options rounding sign none = record { digits = none; leading = refl; trailing = refl; integer = refl; fraction = refl }

module _ (pairs : PlainReadsByPairs) (book : BookTables) (asked : Asked) (tables : Tables) (finds : FindsTables book asked tables) where
  read_found_is : (text : List ℕ) → answer_asked book (Some (reading_request asked text)) ≡ read_answer (plain_reading tables text)
  read_found_is text =
      ap (λ p. answer_tagged book p (reading_request asked text)) finds.tag
      ∙ ap (λ found. read_found found Usual text) finds.found
      ∙ ap read_answer (no_digits (format_reading (plain_tables tables) text) ∙ pairs tables text finds.are)

  -- and what the request with another grouping reads
  regrouped_found : (grouping : GroupingStrategy) (text : List ℕ)
      → answer_asked book (Some (reading_request (grouped_by grouping asked) text)) ≡ read_answer (plain_reading (under grouping tables) text)
  regrouped_found grouping text =
      let held : found_plain book finds.preferences (Some (grouping_in asked)) ≡ Ok tables = in_plain (found_plain book finds.preferences (Some (grouping_in asked))) tables finds.found in
      ap (λ p. answer_tagged book p (reading_request (grouped_by grouping asked) text)) finds.tag
      ∙ ap (λ found. read_found (mapped plain_tables found) Usual text) (found_regrouped (grouping_in asked) grouping book finds.preferences ∙ ap (regrouped grouping) held)
      ∙ ap read_answer (no_digits (format_reading (plain_tables (under grouping tables)) text) ∙ pairs (under grouping tables) text (regrouped_are grouping tables finds.are))

  -- what is read whatever the second tables are is answered
  lenient_found : (text : List ℕ) (value : SignedValue Number) → ((second : Option Tables) → reading_by tables second text ≡ decimal value)
      → answer_asked book (Some (lenient_request asked text)) ≡ written (signed_text_of value)
  lenient_found text value is =
      let second : FormatTables → Option FormatTables = second_for (plain_shape (grouping_in asked)) book finds.preferences in
      ap (λ p. answer_tagged book p (lenient_request asked text)) finds.tag
      ∙ ap (λ found. typed_found found second text) finds.found
      ∙ ap read_answer (is (plain_in (second (plain_tables tables))))

  plain_found_is : (options : NumberOptions) (digits : List ℕ) (value : SignedValue Number) → reading_of digits ≡ number value
      → answer_asked book (Some (plain_request asked options digits)) ≡ written (decimal_text tables (changed options None value))
  plain_found_is options digits value is =
      ap (λ p. answer_tagged book p (plain_request asked options digits)) finds.tag
      ∙ ap (written_to (found_for (plain_shape (grouping_in asked)) book finds.preferences) options) is
      ∙ ap (λ found. written_found found options value) finds.found

  read_of : (text digits : List ℕ) → answer_asked book (Some (reading_request asked text)) ≡ written digits → IsRead tables text digits
  read_of text digits same = read_by tables text digits (plain_reading tables text) refl (sym (read_found_is text) ∙ same)

  written_by : (text : List ℕ) (reading : Reading) → reading_of asked.text ≡ reading
      → written_to (found_for (plain_shape (grouping_in asked)) book finds.preferences) asked.format.options reading ≡ written text → IsWritten tables asked text
  written_by text nothing is same = absurd (refused_no refusal.Number text same)
  written_by text beyond is same = absurd (refused_no refusal.Limit text same)
  written_by text (number value) is same = record {
    value = value;
    is = is;
    shown = one_text (decimal_text tables (changed asked.format.options None value)) text
        (sym (ap (λ found. written_found found asked.format.options value) finds.found) ∙ same);
  }

  written_of : (text : List ℕ) → asked.task ≡ Write → asked.format.shape ≡ plain_shape (grouping_in asked) → answer_asked book (Some asked) ≡ written text → IsWritten tables asked text
  written_of text task shape same =
      written_by text (reading_of asked.text) refl
      (sym (ap (λ p. answer_tagged book p asked) finds.tag
      ∙ ap (λ t. answer_by t asked.format (found_for asked.format.shape book finds.preferences) (second_for asked.format.shape book finds.preferences)
      (λ rule_type. plural_rules_for rule_type book finds.preferences) asked.text) task
      ∙ ap (λ s. written_to (found_for s book finds.preferences) asked.format.options (reading_of asked.text)) shape) ∙ same)

  -- what was read, sent again, is read as the same number
  sent_again : (text digits : List ℕ) (read : IsRead tables text digits) → IsDecimal read.value → reading_of digits ≡ number read.value
  sent_again text digits read is = signed_number digits read.value (subst (λ t. ReadsSigned t read.value) read.printed (signed_printed read.value is))

  -- and is a decimal that has the text
  read_plainly : HasOnePlainReading → (text : List ℕ) (value : SignedValue Number) → plain_reading tables text ≡ decimal value → IsPlainText tables text value
  read_plainly one text value is = ((one tables text (decimal value) finds.are).1 (sym is)).1

-- ---- the laws

-- what a request finds whose text has an answer
record FindsSome (book : BookTables) (asked : Asked) : Type 0 where
  tables : Tables
  finds : FindsTables book asked tables

found_some : (book : BookTables) (asked : Asked) (text digits : List ℕ) (p : Preferences) → wanted_of asked.tag ≡ Some p → FindsTexts book asked
    → (found : Result Tables DataError) → found_plain book p (Some (grouping_in asked)) ≡ found → read_found (mapped plain_tables found) Usual text ≡ written digits → FindsSome book asked
found_some book asked text digits p tag texts (Err error) held same = absurd (refused_no refusal.Table digits same)
found_some book asked text digits p tag texts (Ok tables) held same =
    let there : found_for (plain_shape (grouping_in asked)) book p ≡ Ok (plain_tables tables) = ap (mapped plain_tables) held in
    record { tables = tables; finds = record { preferences = p; tag = tag; found = there; are = texts p tag tables there } }

wanted_some : (book : BookTables) (asked : Asked) (text digits : List ℕ) → FindsTexts book asked
    → (wanted : Option Preferences) → wanted_of asked.tag ≡ wanted → answer_tagged book wanted (reading_request asked text) ≡ written digits → FindsSome book asked
wanted_some book asked text digits texts None tag same = absurd (refused_no refusal.Tag digits same)
wanted_some book asked text digits texts (Some p) tag same = found_some book asked text digits p tag texts (found_plain book p (Some (grouping_in asked))) refl same

read_leniently : (pairs : PlainReadsByPairs) (book : BookTables) (asked : Asked) (tables : Tables) (text digits : List ℕ) → FindsTables book asked tables
    → answer_asked book (Some (reading_request asked text)) ≡ written digits → answer_asked book (Some (lenient_request asked text)) ≡ written digits
read_leniently pairs book asked tables text digits finds same =
    let read = read_of pairs book asked tables finds text digits same in
    lenient_found pairs book asked tables finds text read.value (λ second. read_exactly tables second text read.value read.is)
    ∙ ap written read.printed

pub read_is_lenient : PlainReadsByPairs → ReadIsReadLeniently
read_is_lenient pairs book asked text digits texts same =
    let some = wanted_some book asked text digits texts (wanted_of asked.tag) refl same in
    read_leniently pairs book asked some.tables text digits some.finds same

pub read_again : PlainReadsByPairs → HasOnePlainReading → TextIsWrittenAgain → ReadIsWrittenAgain
read_again pairs one again book asked tables text digits finds same =
    let read = read_of pairs book asked tables finds text digits same in
    let plain = read_plainly pairs book asked tables finds one text read.value read.is in
    plain_found_is pairs book asked tables finds (options_of Usual Keep) digits read.value (sent_again pairs book asked tables finds text digits read plain.decimal)
    ∙ ap (λ v. written (decimal_text tables v)) (changes_amount (record { shape = plain_shape (grouping_in asked); options = options_of Usual Keep }) refl None (λ _. refl) read.value plain.decimal)
    ∙ ap written (again tables text read.value read.is)

pub each_grouping_is_read : PlainReadsByPairs → EachGroupingIsReadLeniently
each_grouping_is_read pairs book asked tables grouping text digits finds readable utf8 same =
    let other : Tables = under grouping tables in
    let read = read_by other text digits (plain_reading other text) refl (sym (regrouped_found pairs book asked tables finds grouping text) ∙ same) in
    lenient_found pairs book asked tables finds text read.value (λ second. read_grouped tables second grouping text read.value finds.are utf8 readable read.is)
    ∙ ap written read.printed

pub reads_back : PlainReadsByPairs → TextReadsBack → WrittenReadsBack
reads_back pairs back book asked tables value finds readable is =
    read_found_is pairs book asked tables finds (decimal_text tables value)
    ∙ ap read_answer (back tables value finds.are readable is)

pub rounded_again : PlainReadsByPairs → HasOnePlainReading → TextsHaveOneDecimal → RoundedIsWrittenAgain
rounded_again pairs one texts book asked tables text digits task shape plainly fits finds readable wrote same =
    let options = asked.format.options in
    let read = read_of pairs book asked tables finds text digits same in
    let is = read_plainly pairs book asked tables finds one text read.value read.is in
    let first = written_of pairs book asked tables finds text task shape wrote in
    let was : IsDecimal first.value = reading_is_decimal asked.text first.value first.is in
    let value : SignedValue Number = changed options None first.value in
    let whole : IsDecimal value = changed_is_decimal options None first.value fits was in
    let one_value : read.value ≡ value = texts tables read.value value finds.are readable is.decimal whole (is.written ∙ sym first.shown) in
    let kept : changed (keeping options) None read.value ≡ value = ap (changed (keeping options) None) one_value ∙ changed_again options None first.value plainly fits was in
    plain_found_is pairs book asked tables finds (keeping options) digits read.value (sent_again pairs book asked tables finds text digits read is.decimal)
    ∙ ap (λ v. written (decimal_text tables v)) kept
    ∙ ap written first.shown
