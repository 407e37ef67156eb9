-- Which texts may want memory, beside their answer and what it is written and read with, by what is done with them.
-- Defined in docs/requests.md, "What a cache keeps".
-- Cited by `answer` and `run`, through Front.antt of `locale_numbers`, and by `read_number`.
use Rattle.std.specs.Prelude.{◌⊎◌, ℕ, List, Option, Some, None, Result, Ok, Err}
use Rattle.fixed_decimal.specs.CompactText.{ReadsLongCompact}
use Rattle.fixed_decimal.specs.Number.{Number}
use Rattle.fixed_decimal.specs.SignedText.{ReadsLongSigned, ReadsLongerSigned}
use Rattle.fixed_decimal.specs.SignedValue.{SignedValue}
use Rattle.icu_decimal.specs.declared.error.DataError.{DataError}
use Rattle.icu_dimension_fractions.specs.declared.FractionInfo.{FractionInfo}
use Rattle.locale_numbers_formats.specs.Changed.{MayGrowBy}
use Rattle.locale_numbers_formats.specs.declared.Rounding.{Rounding}
use Rattle.locale_numbers_formatter.specs.FormatReading.{ReaderAllocates, reader_of}
use Rattle.locale_numbers_formatter.specs.FormatText.{FormatTables, MayLengthen, fractions_in}
use Rattle.locale_numbers_formatter.specs.FormatTyped.{TypedAllocates, typed_of}
use Rattle.locale_numbers_answers.specs.NumberReading.{Reading, beyond, nothing, number, reading_of}
use Rattle.locale_numbers_requests.specs.RangeEnds.{range_ends}
use Rattle.locale_numbers_requests.specs.declared.Task.{Task}
use Rattle.locale_numbers_requests.specs.declared.Task.TheVariants as task

-- it spells a number of more than sixteen digits, and of more than the one that is there
abbrev pub ReadsMore : List ℕ → SignedValue Number → Type 0
ReadsMore text value = ReadsLongSigned text × ReadsLongerSigned text value.absolute.count

-- a rounding of the number that it says, by the digits of a currency
abbrev pub MayGrowRead : Rounding → Option FractionInfo → Reading → Type 0
MayGrowRead rounding fractions (number value) = MayGrowBy rounding fractions value
MayGrowRead rounding fractions beyond = ⊥
MayGrowRead rounding fractions nothing = ⊥

abbrev pub MayGrowFound : Result FormatTables DataError → Rounding → Reading → Type 0
MayGrowFound (Err error) rounding reading = ⊥
MayGrowFound (Ok f) rounding reading = MayGrowRead rounding (fractions_in f) reading

-- what is shown may be longer than the number
abbrev pub MayLengthenFound : Result FormatTables DataError → Type 0
MayLengthenFound (Err error) = ⊥
MayLengthenFound (Ok f) = MayLengthen f

abbrev pub ReadAllocates : Result FormatTables DataError → List ℕ → Type 0
ReadAllocates (Err error) text = ⊥
ReadAllocates (Ok f) text = ReaderAllocates (reader_of f) text

abbrev pub TypedFoundAllocates : Result FormatTables DataError → (FormatTables → Option FormatTables) → List ℕ → Type 0
TypedFoundAllocates (Err error) second text = ⊥
TypedFoundAllocates (Ok f) second text = TypedAllocates (typed_of f (second f)) text

-- a number that is read beside the one before, and changed
abbrev pub NumberAllocates : Result FormatTables DataError → Rounding → List ℕ → SignedValue Number → Type 0
NumberAllocates found rounding text value = ReadsMore text value ⊎ MayGrowFound found rounding (reading_of text)

-- so the first end of a range; the second one is read whatever number was there
abbrev pub RangeAllocates : Result FormatTables DataError → Rounding → Option (List ℕ × List ℕ) → SignedValue Number → Type 0
RangeAllocates found rounding None value = ⊥
RangeAllocates found rounding (Some ends) value =
    NumberAllocates found rounding ends.0 value ⊎ (ReadsLongSigned ends.1 ⊎ MayGrowFound found rounding (reading_of ends.1))

-- by what is done with it, beside the number of the text before
abbrev pub AnswerAllocates : Task → Rounding → Result FormatTables DataError → (FormatTables → Option FormatTables) → List ℕ → SignedValue Number → Type 0
AnswerAllocates task.Write rounding found second text value = NumberAllocates found rounding text value ⊎ MayLengthenFound found
AnswerAllocates task.WriteExact rounding found second text value = ReadsLongCompact text
AnswerAllocates task.Read rounding found second text value = ReadAllocates found text
AnswerAllocates task.ReadLenient rounding found second text value = TypedFoundAllocates found second text
AnswerAllocates (task.Category rule_type) rounding found second text value = NumberAllocates found rounding text value ⊎ MayLengthenFound found
AnswerAllocates task.RangeCategory rounding found second text value = RangeAllocates found rounding (range_ends text) value ⊎ MayLengthenFound found
