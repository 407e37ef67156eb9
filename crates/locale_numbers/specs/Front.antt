-- What the front of a line asks, all that is before its text: it is read as a line with no text.
-- Defined in docs/requests.md, "Request line" and "What a cache keeps".
-- Cited by the private steps of an answer.
-- A front is a line without its text, so both what a line asks and what it is answered are imported.
use Rattle.std.specs.Prelude.{◌≡◌, ◌⊎◌, ◌&&◌, ℕ, ℤ, nat_le, Bool, List, Option, Some, None, true, false, option_map, IfSome, if◌then◌else◌, Result, Ok, Err}
use Rattle.std.specs.Str.{is_utf8}
use Rattle.fixed_decimal.specs.Number.{Number, place}
use Rattle.fixed_decimal.specs.SignedValue.{SignedValue}
use Rattle.icu_decimal.specs.declared.error.DataError.{DataError}
use Rattle.icu_dimension_fractions.specs.declared.CurrencyUsage.TheVariants as usage
use Rattle.locale_numbers_answers.specs.AnswerMemory.{AnswerAllocates}
use Rattle.locale_numbers_answers.specs.Answers.{answer_by}
pub use Rattle.locale_numbers_answers.specs.AnswerLine.{if_text}
use Rattle.locale_numbers_book.specs.Book.{BookTables}
use Rattle.locale_numbers_book.specs.Wanted.{wanted_of}
use Rattle.locale_numbers_formats.specs.Changed.{amount_by}
use Rattle.locale_numbers_formats.specs.declared.LeadingZeros.{LeadingZeros}
use Rattle.locale_numbers_formats.specs.declared.LeadingZeros.TheVariants as leading
use Rattle.locale_numbers_formats.specs.declared.Notation.{Notation}
use Rattle.locale_numbers_formats.specs.declared.Notation.TheVariants.{Standard, Compact, CompactDigits, Scientific}
use Rattle.locale_numbers_formats.specs.declared.NumberFormat.{NumberFormat}
use Rattle.locale_numbers_formats.specs.declared.NumberUnit.{NumberUnit}
use Rattle.locale_numbers_formats.specs.declared.NumberUnit.TheVariants as unit
use Rattle.locale_numbers_formats.specs.declared.Rounding.{Rounding}
use Rattle.locale_numbers_formats.specs.declared.Rounding.TheVariants.{Usual, Cash, AsGiven, At, Significant, Either}
use Rattle.locale_numbers_formats.specs.declared.TrailingZeros.{TrailingZeros}
use Rattle.locale_numbers_formats.specs.declared.TrailingZeros.TheVariants as trailing
use Rattle.locale_numbers_formatter.specs.FormatText.{FormatTables, compact_tables, digits_tables, fractions_in, plain_tables, scientific_tables, unit_tables}
use Rattle.locale_numbers_requests.specs.Request.{Asked, keeps_sign, request_of, with_text}
use Rattle.locale_numbers_requests.specs.declared.Refusal.TheVariants as refusal
use Rattle.locale_numbers_requests.specs.declared.Task.{Task}
use Rattle.locale_numbers_requests.specs.declared.Task.TheVariants.{Write, WriteExact, Read, ReadLenient, Category, RangeCategory}
use Rattle.locale_numbers.specs.Answer.{found_for, plural_rules_for, refused, second_for}
use Rattle.locale_numbers.specs.FormatterKeys.{key_in, key_with, purpose_of}
use Rattle.locale_numbers.specs.KeptFormatters.{Kept, reader_is_kept, typed_is_kept}
use Rattle.locale_numbers.specs.declared.formatter_key.FormatterKey.{FormatterKey}
use Rattle.locale_numbers.specs.declared.front.Front.{Front}

-- what a line asks, by the text after its front and what this asks: nothing, where the text is not UTF-8
abbrev pub asked_text : List ℕ → Option Asked → Option Asked
asked_text text asked = if is_utf8 text then with_text text asked else None

-- ---- numbers as they are given, but for the digits of a currency

-- they are written with all their digits
abbrev pub is_standard : Notation → Bool
is_standard Standard = true
is_standard (Compact width) = false
is_standard (CompactDigits width options) = false
is_standard (Scientific style options) = false

abbrev pub is_usual : Rounding → Bool
is_usual Usual = true
is_usual Cash = false
is_usual AsGiven = false
is_usual (At position mode increment) = false
is_usual (Significant digits mode) = false
is_usual (Either priority position digits mode) = false

-- a number that is no amount is not rounded
abbrev pub rounds_none : Rounding → Bool
rounds_none Usual = true
rounds_none Cash = true
rounds_none AsGiven = true
rounds_none (At position mode increment) = false
rounds_none (Significant digits mode) = false
rounds_none (Either priority position digits mode) = false

-- one with a unit is rounded as it usually is
abbrev pub rounds_so : NumberUnit → Rounding → Bool
rounds_so unit.None rounding = rounds_none rounding
rounds_so (unit.Percent sign) rounding = is_usual rounding
rounds_so (unit.Currency currency) rounding = is_usual rounding

abbrev pub keeps_zeros : LeadingZeros → TrailingZeros → Bool
keeps_zeros leading.Keep trailing.Keep = true
keeps_zeros leading.Keep trailing.Trim = false
keeps_zeros leading.Keep trailing.TrimWhole = false
keeps_zeros leading.Keep trailing.TrimAll = false
keeps_zeros leading.TrimRoundedZero end = false
keeps_zeros leading.Trim end = false

-- so many digits at least, where they are none that has to be added
abbrev pub adds_none : ℤ → Bool
adds_none digits = nat_le (place digits) 32768

abbrev pub is_as_it_is : NumberFormat → Bool
is_as_it_is format =
    is_standard format.shape.notation
    && rounds_so format.shape.unit format.options.rounding
    && keeps_zeros format.options.leading_zeros format.options.zeros
    && adds_none format.options.integer_digits
    && adds_none format.options.fraction_digits
    && keeps_sign format.options.sign

-- a number as a format usually shows it: an amount is rounded to the digits of its currency
abbrev pub as_usual : FormatTables → SignedValue Number → SignedValue Number
as_usual format value = amount_by (fractions_in format) usage.Standard value

-- ---- fronts

-- what is kept of a request for any text: its task and its options, and its key, where its tag is one
abbrev pub front_asked : Option Asked → Option Front
front_asked None = None
front_asked (Some asked) = Some (record {
  task = asked.task;
  options = asked.format.options;
  is_as_it_is = is_as_it_is asked.format;
  key = option_map (key_with asked.task asked.format.shape) (wanted_of asked.tag);
})

-- what a front asks
abbrev pub front_of : List ℕ → Option Front
front_of bytes = front_asked (request_of bytes)

-- the format of a front with this key
abbrev pub format_after : Front → FormatterKey → NumberFormat
format_after front key = record { shape = key.shape; options = front.options }

-- the key is for what the task does, and what is known of the format is so
pub record FitsKey (front : Front) (key : FormatterKey) : Type 0 where
  pub purpose : key.purpose ≡ purpose_of front.task
  pub plain : front.is_as_it_is ≡ is_as_it_is (format_after front key)

-- this holds of the front's key, where it has one
abbrev pub HasKeyThat : (FormatterKey → Type 0) → Option Front → Type 0
HasKeyThat holds None = Unit {0}
HasKeyThat holds (Some front) = IfSome front.key holds

-- the answer to a text after a front with this key
abbrev pub answer_by_key : BookTables → Front → FormatterKey → List ℕ → List ℕ
answer_by_key book front key text =
    answer_by front.task (format_after front key) (found_for key.shape book key.preferences) (second_for key.shape book key.preferences)
    (λ rule_type. plural_rules_for rule_type book key.preferences) text

-- the answer to a text after a front, by its key, where its tag is one
abbrev pub answer_keyed : BookTables → Front → Option FormatterKey → List ℕ → List ℕ
answer_keyed book front None text = refused refusal.Tag
answer_keyed book front (Some key) text = answer_by_key book front key text

-- the answer to a text after a front, or after one that asks nothing
abbrev pub answer_front : BookTables → Option Front → List ℕ → List ℕ
answer_front book None text = refused refusal.Shape
answer_front book (Some front) text = answer_keyed book front front.key text

-- the answer to what is after a front
abbrev pub answer_after : BookTables → Option Front → List ℕ → List ℕ
answer_after book front text = if_text text (answer_front book front text)

-- the key that such a line asks for
abbrev pub key_keyed : Task → Option FormatterKey → List ℕ → Option FormatterKey
key_keyed task None text = None
key_keyed task (Some key) text = key_in task key text

abbrev pub key_front : Option Front → List ℕ → Option FormatterKey
key_front None text = None
key_front (Some front) text = key_keyed front.task front.key text

-- this key of a text, where it is UTF-8
abbrev pub key_if_text : List ℕ → Option FormatterKey → Option FormatterKey
key_if_text text key = if is_utf8 text then key else None

abbrev pub key_after : Option Front → List ℕ → Option FormatterKey
key_after front text = key_if_text text (key_front front text)

-- ---- memory

-- what is found has a unit
abbrev pub FindsUnits : Result FormatTables DataError → Type 0
FindsUnits (Err error) = ⊥
FindsUnits (Ok (plain_tables t)) = ⊥
FindsUnits (Ok (compact_tables t)) = ⊥
FindsUnits (Ok (digits_tables t o)) = ⊥
FindsUnits (Ok (scientific_tables s)) = ⊥
FindsUnits (Ok (unit_tables u)) = Unit {0}

-- what reads texts with a unit is put together for each: it is not kept
abbrev pub PutsTogether : Bool → Result FormatTables DataError → Type 0
PutsTogether is_kept found = (is_kept ≡ false) × FindsUnits found

-- a text that may want memory, beside its answer and its formatter, by the task and what is kept for its key: one for which the answer may;
-- and of a unit any that is read, where what reads it is put together for it
abbrev pub MayTakeIn : Task → Option Kept → Rounding → Result FormatTables DataError → (FormatTables → Option FormatTables) → List ℕ → SignedValue Number → Type 0
MayTakeIn Write kept rounding found second text value = AnswerAllocates Write rounding found second text value
MayTakeIn WriteExact kept rounding found second text value = AnswerAllocates WriteExact rounding found second text value
MayTakeIn Read kept rounding found second text value =
    (is_utf8 text ≡ true) × (AnswerAllocates Read rounding found second text value ⊎ PutsTogether (reader_is_kept kept) found)
MayTakeIn ReadLenient kept rounding found second text value =
    (is_utf8 text ≡ true) × (AnswerAllocates ReadLenient rounding found second text value ⊎ PutsTogether (typed_is_kept kept) found)
MayTakeIn (Category rule_type) kept rounding found second text value = AnswerAllocates (Category rule_type) rounding found second text value
MayTakeIn RangeCategory kept rounding found second text value = (is_utf8 text ≡ true) × AnswerAllocates RangeCategory rounding found second text value

-- the same after a front, by its key: where its tag is not one, no text wants memory
abbrev pub MayTakeKeyed : BookTables → (FormatterKey → Option Kept) → Front → Option FormatterKey → List ℕ → SignedValue Number → Type 0
MayTakeKeyed book kept_for front None text value = ⊥
MayTakeKeyed book kept_for front (Some key) text value =
    MayTakeIn front.task (kept_for key) front.options.rounding (found_for key.shape book key.preferences) (second_for key.shape book key.preferences) text value

-- nor after a front that asks nothing
abbrev pub MayTakeAfter : BookTables → (FormatterKey → Option Kept) → Option Front → List ℕ → SignedValue Number → Type 0
MayTakeAfter book kept_for None text value = ⊥
MayTakeAfter book kept_for (Some front) text value = MayTakeKeyed book kept_for front front.key text value
