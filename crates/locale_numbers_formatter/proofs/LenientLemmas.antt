-- What is read by tables in turn: `specs/TypedPlain.antt`.
use Rattle.std.proofs.Common.{◌≡◌, ◌⊎◌, ℕ, true, List, Option, Some, None, Result, subst, sym}
use Rattle.std.specs.Str.{IsUtf8}
use Rattle.fixed_decimal.specs.Number.{Number}
use Rattle.fixed_decimal.specs.SignedValue.{SignedValue}
use Rattle.icu_decimal.specs.declared.options.GroupingStrategy.{GroupingStrategy}
use Rattle.icu_decimal.specs.LenientLaws.{under}
use Rattle.icu_decimal.specs.LenientReading.{MayAllocate, is_leniently_readable_by}
use Rattle.icu_decimal.specs.PlainReading.{IsAnswered, decimal, plain_reading}
use Rattle.icu_decimal.specs.PlainText.{Tables}
use Rattle.icu_decimal.specs.ReadingLaws.{AreTables}
use Rattle.icu_decimal.specs.TypedReading.{typed_by_both}
use Rattle.icu_decimal.specs.declared.error.ReadError.{ReadError}
use Rattle.icu_decimal_lenient.proofs.AgreementLemmas.{each_grouping_by_both, exact_by_both}
use Rattle.icu_decimal_lenient.proofs.LenientLemmas.{each_grouping_is_lenient, exact_is_lenient}
use Rattle.icu_decimal_lenient.proofs.TypedLemmas.{both_are_typed_so, lenient_is_typed_so}
use Rattle.locale_numbers_formatter.specs.TypedPlain.{MayAllocateBy, reading_by}

-- what the first tables read exactly, the second ones leave
pub read_exactly : (first : Tables) (second : Option Tables) (text : List ℕ) (value : SignedValue Number)
    → plain_reading first text ≡ decimal value → reading_by first second text ≡ decimal value
read_exactly first None text value is = lenient_is_typed_so first text value (exact_is_lenient first text value is)
read_exactly first (Some second) text value is = both_are_typed_so first second text value (exact_by_both first second text value is)

-- and so what they read exactly under another grouping
pub read_grouped : (first : Tables) (second : Option Tables) (grouping : GroupingStrategy) (text : List ℕ) (value : SignedValue Number)
    → AreTables first → IsUtf8 text → is_leniently_readable_by first ≡ true → plain_reading (under grouping first) text ≡ decimal value → reading_by first second text ≡ decimal value
read_grouped first None grouping text value are utf8 readable is = lenient_is_typed_so first text value (each_grouping_is_lenient first grouping text value are utf8 readable is)
read_grouped first (Some second) grouping text value are utf8 readable is = both_are_typed_so first second text value (each_grouping_by_both first second grouping text value are utf8 readable is)

-- by both tables
pub both_read : (answer : Result (SignedValue Number) ReadError) (first : Tables) (found : Option Tables) (second : Tables) (text : List ℕ)
    → found ≡ Some second → IsAnswered answer (typed_by_both first second text) → IsAnswered answer (reading_by first found text)
both_read answer first found second text is answered = subst (λ t. IsAnswered answer (reading_by first t text)) (sym is) answered

-- some of them may allocate
pub both_allocate : (first : Tables) (found : Option Tables) (second : Tables) (text : List ℕ)
    → found ≡ Some second → MayAllocate first text ⊎ MayAllocate second text → MayAllocateBy first found text
both_allocate first found second text is may = subst (λ t. MayAllocateBy first t text) (sym is) may

-- the first ones alone
pub one_allocates : (first : Tables) (found : Option Tables) (text : List ℕ) → found ≡ None → MayAllocate first text → MayAllocateBy first found text
one_allocates first found text is may = subst (λ t. MayAllocateBy first t text) (sym is) may
