-- Known values of scientific formats: answers under English tables.
use Rattle.std.proofs.Common.{◌≡◌, List, ◌∷◌, ◌++◌, codes, ◌+◌, ◌%◌, ◌^◌, ◌==◌, cond, Option, Ok, refl, sym, ap, subst, lit≤}
use Rattle.std.specs.Prelude.{pos}
use Rattle.std.specs.Str.{chars}
use Rattle.fixed_decimal.specs.CompactText.{CompactValue}
use Rattle.fixed_decimal.specs.Number.{IsNumber, Number}
use Rattle.fixed_decimal.specs.Shifts.{rise}
use Rattle.fixed_decimal.specs.declared.Sign.TheVariants.{None as NoSign}
use Rattle.icu_decimal.specs.declared.options.GroupingStrategy.TheVariants.{Never}
use Rattle.icu_decimal_scientific.specs.FormOf.{bare, ending, exponent_in, holding}
use Rattle.icu_decimal_scientific.specs.Scientific.{IsExponent, IsGreatestMultiple}
use Rattle.icu_decimal_scientific.specs.declared.ExponentSign.TheVariants as exponent
use Rattle.icu_decimal_scientific.specs.declared.ScientificNotation.TheVariants.{Scientific}
use Rattle.icu_decimal_scientific.proofs.FormOfLemmas.{exponent_known}
use Rattle.icu_decimal_scientific.proofs.PowerLemmas.{IsTop, first_at, same_first}
use Rattle.icu_plurals.specs.Rules.{Rules}
use Rattle.icu_plurals.specs.declared.PluralRange.{PluralRange}
use Rattle.icu_plurals.specs.declared.PluralRuleType.{PluralRuleType}
use Rattle.locale_numbers_formats.specs.Changed.{unchanged}
use Rattle.locale_numbers_formats.specs.declared.NumberFormat.{NumberFormat}
use Rattle.locale_numbers_formatter.specs.FormatText.{FormatTables, ScientificFormat, scientific_tables}
use Rattle.locale_numbers_answers.specs.Answers.{answer_by}
use Rattle.locale_numbers_answers.specs.NumberAnswer.{exact_answer, number_answer, text_and_value}
use Rattle.locale_numbers_answers.specs.AnswerLine.{refused, written}
use Rattle.locale_numbers_requests.specs.Request.{tab}
use Rattle.locale_numbers_requests.specs.declared.Refusal.TheVariants as refusal
use Rattle.locale_numbers_requests.specs.declared.Task.TheVariants as task
use Rattle.locale_numbers_answers.proofs.KnownCompactAnswers.{english as compact_english, zero_of}

-- `E` before exponents
abbrev english : ScientificFormat
english = record {
  settings = record { tables = compact_english.plain; separator = codes "E"; exponents = record compact_english.plain { strategy = Never } };
  style = record { notation = Scientific; exponents = record { sign = exponent.Auto; least_digits = 0 } };
  options = unchanged;
}

-- the value has the sign of the text
zero_shown : number_answer (scientific_tables english) zero_of ≡ codes "ok" ++ tab ∷ codes "-0E0" ++ tab ∷ codes "-0e0"
unfolding bare ending exponent_in holding lib.Utf8.encode
zero_shown = refl

-- 10 and 10^-32768 together, whose significand would have a digit below the least place
abbrev ten_and_least : Number
ten_and_least = record { count = 10 ^ 32769 + 1; low = 0; high = 32769 }

is_number : IsNumber ten_and_least
is_number = record { low = lit≤ tt; ones = lit≤ tt; high = lit≤ tt; whole = refl; below = lit≤ tt }

first_is : IsTop (10 ^ 32769 + 1) 32769
first_is = record { reaches = lit≤ tt; below = lit≤ tt }

greatest : IsGreatestMultiple 1 32769 (pos 1)
greatest = record { multiple = refl; under = lit≤ tt; next = lit≤ tt }

exponent_is : IsExponent Scientific (10 ^ 32769 + 1) (pos 1)
exponent_is = record {
  zero = λ is. absurd (cc);
  some = λ first at. subst (λ place. IsGreatestMultiple 1 place (pos 1)) (same_first (10 ^ 32769 + 1) 32769 first (first_at (10 ^ 32769 + 1) 32769 first_is) at) greatest;
}

no_form : number_answer (scientific_tables english) (record { sign = NoSign; absolute = ten_and_least }) ≡ codes "err" ++ tab ∷ codes "range"
no_form =
    ap (λ e. cond ((10 ^ 32769 + 1) % 10 ^ rise e == 0) (written (text_and_value (scientific_tables english) (record { sign = NoSign; absolute = ten_and_least }))) (refused refusal.Range))
    (sym (exponent_known Scientific ten_and_least (pos 1) is_number exponent_is))

-- no exponent is given for it, and no typed text is read
module _ (s : ScientificFormat) where
  no_exact_form : (form : CompactValue) → exact_answer (scientific_tables s) form ≡ codes "err" ++ tab ∷ codes "exponent"
  no_exact_form form = refl

  module _ (format : NumberFormat) (second : FormatTables → Option FormatTables) (rules : PluralRuleType → Option (Rules × List PluralRange)) where
    text_typed : answer_by task.ReadLenient format (Ok (scientific_tables s)) second rules (codes "1E6") ≡ codes "err" ++ tab ∷ codes "unreadable"
    text_typed = refl

-- a text is read where it is written so
module _ (format : NumberFormat) (second : FormatTables → Option FormatTables) (rules : PluralRuleType → Option (Rules × List PluralRange)) where
  text_read : answer_by task.Read format (Ok (scientific_tables english)) second rules (codes "1.2E6") ≡ codes "ok" ++ tab ∷ codes "1200000"
  unfolding chars bare ending exponent_in holding lib.Utf8.encode
  text_read = refl

  small_mark : answer_by task.Read format (Ok (scientific_tables english)) second rules (codes "1.2e6") ≡ codes "err" ++ tab ∷ codes "not-written"
  unfolding chars bare ending exponent_in holding lib.Utf8.encode
  small_mark = refl
