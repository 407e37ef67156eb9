-- Known values of the definitions: roundings, texts of numbers, texts read back, answers that ask no format.
use Rattle.std.proofs.Common.{◌≡◌, List, [], ◌∷◌, ◌++◌, codes, ◌*◌, ◌^◌, false, true, Option, Some, None, Result, Ok, Err, refl}
use Rattle.icu_decimal.specs.declared.error.DataError.{DataError}
use Rattle.icu_decimal.specs.PlainReading.{decimal, not_written, unreadable}
use Rattle.fixed_decimal.specs.declared.Sign.TheVariants.{None as NoSign, Negative}
use Rattle.fixed_decimal.specs.declared.UnsignedRoundingMode.TheVariants.{HalfEven}
use Rattle.icu_dimension_fractions.specs.declared.FractionIncrement.TheVariants.{MultiplesOf1, MultiplesOf5}
use Rattle.icu_dimension_fractions.specs.declared.FractionInfo.{FractionInfo}
use Rattle.icu_plurals.specs.Rules.{Rules}
use Rattle.icu_plurals.specs.declared.PluralRange.{PluralRange}
use Rattle.icu_plurals.specs.declared.PluralRuleType.{PluralRuleType}
use Rattle.locale_numbers_formats.specs.declared.NumberFormat.{NumberFormat}
use Rattle.locale_numbers_formats.specs.declared.Rounding.TheVariants.{Cash, AsGiven}
use Rattle.locale_numbers_formatter.specs.FormatText.{FormatTables, compact_tables}
use Rattle.locale_numbers_answers.proofs.KnownCompactAnswers.{english}
use Rattle.locale_numbers_formats.specs.Rounded.{multiple_of, highest_of}
use Rattle.locale_numbers_answers.specs.Answers.{answer_by}
use Rattle.locale_numbers_answers.specs.ReadAnswer.{fraction_asked, read_answer}
use Rattle.locale_numbers_answers.specs.NumberReading.{reading_of, parts_of, nothing, beyond}
use Rattle.locale_numbers_requests.specs.Request.{tab}
use Rattle.locale_numbers_requests.specs.declared.Task.TheVariants as task

-- ---- roundings

-- 9.75 at the tenths to five of them is 10.0
to_fives : multiple_of HalfEven (5 * 10 ^ 32767) (975 * 10 ^ 32766) ≡ 100 * 10 ^ 32767
to_fives = refl

-- a tie between two units of 2 is at 3, and goes to 4 by the even count
even_count : multiple_of HalfEven 2 3 ≡ 4
even_count = refl

-- the position, the first digit
padded : highest_of 0 3 7 ≡ 2
padded = refl

one_place_more : highest_of 0 0 10 ≡ 1
one_place_more = refl

-- ---- texts of numbers

parts_of_point : parts_of (codes "0012.50") ≡ Some (record { integer = codes "0012"; fraction = codes "50"; negative = false; exponent = [] })
parts_of_point = refl

parts_of_exponent : parts_of (codes ".5E-3") ≡ Some (record { integer = []; fraction = codes "5"; negative = true; exponent = codes "3" })
parts_of_exponent = refl

no_digit_after : reading_of (codes "5.") ≡ nothing
no_digit_after = refl

no_exponent : reading_of (codes "1e") ≡ nothing
no_exponent = refl

two_signs : reading_of (codes "+-1") ≡ nothing
two_signs = refl

sign_alone : reading_of (codes "-") ≡ nothing
sign_alone = refl

carriage_return : reading_of (codes "1" ++ 13 ∷ []) ≡ nothing
carriage_return = refl

too_high : reading_of (codes "10e32767") ≡ beyond
too_high = refl

-- ---- texts read back

number_read : read_answer (decimal (record { sign = Negative; absolute = record { count = 987654321 * 10 ^ 32765; low = 32765; high = 32773 } }))
    ≡ codes "ok" ++ tab ∷ codes "-987654.321"
number_read = refl

zeros_read : read_answer (decimal (record { sign = NoSign; absolute = record { count = 7 * 10 ^ 32768; low = 32768; high = 32771 } })) ≡ codes "ok" ++ tab ∷ codes "0007"
zeros_read = refl

no_number_read : read_answer not_written ≡ codes "err" ++ tab ∷ codes "not-written"
no_number_read = refl

not_readable : read_answer unreadable ≡ codes "err" ++ tab ∷ codes "unreadable"
not_readable = refl

module _ (format : NumberFormat) (second : FormatTables → Option FormatTables) (rules : PluralRuleType → Option (Rules × List PluralRange)) where
  no_table_read : answer_by task.Read format (Err DataError.IdentifierNotFound) second rules (codes "5") ≡ codes "err" ++ tab ∷ codes "table"
  no_table_read = refl

  -- compact text tells no number
  compact_read : answer_by task.Read format (Ok (compact_tables english)) second rules (codes "5") ≡ codes "err" ++ tab ∷ codes "unreadable"
  compact_read = refl

  compact_typed : answer_by task.ReadLenient format (Ok (compact_tables english)) second rules (codes "5") ≡ codes "err" ++ tab ∷ codes "unreadable"
  compact_typed = refl

  -- ---- refused before a format is asked

  no_number : (found : Result FormatTables DataError) → answer_by task.Write format found second rules (codes "1e") ≡ codes "err" ++ tab ∷ codes "number"
  no_number found = refl

  no_form : (found : Result FormatTables DataError) → answer_by task.WriteExact format found second rules (codes "1c0") ≡ codes "err" ++ tab ∷ codes "number"
  no_form found = refl

  no_table : answer_by task.Write format (Err DataError.IdentifierNotFound) second rules (codes "5") ≡ codes "err" ++ tab ∷ codes "table"
  no_table = refl

-- ---- amounts read back

-- two digits, and in cash multiples of five of them
abbrev francs : FractionInfo
francs = record { standard = record { digits = 2; increment = MultiplesOf1 }; cash = record { digits = 2; increment = MultiplesOf5 } }

digits_of_cash : fraction_asked (Some francs) Cash ≡ Some francs.cash
digits_of_cash = refl

any_digits : fraction_asked (Some francs) AsGiven ≡ None
any_digits = refl
