-- Known values of compact formats: texts of compact numbers, and answers under English tables.
use Rattle.std.proofs.Common.{◌≡◌, ℕ, List, [], ◌∷◌, ◌++◌, codes, ◌*◌, ◌^◌, None, Ok, Err, refl}
use Rattle.fixed_decimal.specs.Number.{Number}
use Rattle.fixed_decimal.specs.Rounding.{count_limit}
use Rattle.fixed_decimal.specs.SignedValue.{SignedValue}
use Rattle.std.specs.Prelude.{pos, negsuc}
use Rattle.fixed_decimal.specs.declared.RoundingIncrement.TheVariants.{MultiplesOf1}
use Rattle.fixed_decimal.specs.declared.SignedRoundingMode.TheVariants.{Unsigned}
use Rattle.fixed_decimal.specs.declared.UnsignedRoundingMode.TheVariants.{HalfEven}
use Rattle.fixed_decimal.specs.declared.Sign.TheVariants.{None as NoSign, Negative}
use Rattle.fixed_decimal.specs.declared.SignDisplay.TheVariants as display
use Rattle.icu_decimal.specs.CompactTables.{CompactTables}
use Rattle.icu_decimal.specs.CompactText.{lowest_place}
use Rattle.icu_decimal.specs.Elements.{only_other}
use Rattle.icu_decimal.specs.KeptEntries.{TypePatterns, table_of}
use Rattle.icu_decimal.specs.Pattern.{around}
use Rattle.icu_decimal.specs.Symbols.{english_symbols}
use Rattle.icu_decimal.specs.declared.error.DataError.{DataError}
use Rattle.icu_decimal.specs.declared.options.GroupingStrategy.TheVariants.{Auto}
use Rattle.locale_numbers_formatter.specs.CompactDigits.{changed_under, digits_shown}
use Rattle.locale_numbers_formatter.specs.FormatText.{compact_tables, digits_tables, plain_tables}
use Rattle.locale_numbers_formats.specs.declared.LeadingZeros.TheVariants as leading
use Rattle.locale_numbers_formats.specs.declared.NumberOptions.{NumberOptions}
use Rattle.locale_numbers_formats.specs.declared.Rounding.TheVariants.{At}
use Rattle.locale_numbers_formats.specs.declared.SignAsked.TheVariants.{Keep, Show}
use Rattle.locale_numbers_formats.specs.declared.TrailingZeros.TheVariants as trailing
use Rattle.locale_numbers_answers.specs.Answers.{exact_found, exact_with}
use Rattle.locale_numbers_answers.specs.NumberAnswer.{exact_answer, number_answer}
use Rattle.locale_numbers_answers.specs.CompactReading.{compact_beyond, compact_nothing, compact_number, compact_reading_of}
use Rattle.locale_numbers_requests.specs.Request.{tab}

-- ---- texts of compact numbers

-- 1.20 and 6
significand_and_exponent : compact_reading_of (codes "-1.20c6")
    ≡ compact_number (record { significand = record { sign = Negative; absolute = record { count = 12 * 10 ^ 32767; low = 32766; high = 32768 } }; exponent = 6 })
significand_and_exponent = refl

without_exponent : compact_reading_of (codes "5")
    ≡ compact_number (record { significand = record { sign = NoSign; absolute = record { count = 5 * 10 ^ 32768; low = 32768; high = 32768 } }; exponent = 0 })
without_exponent = refl

greatest_exponent_and_one : compact_reading_of (codes "1c256") ≡ compact_beyond
greatest_exponent_and_one = refl

no_digits : compact_reading_of (codes "1c") ≡ compact_nothing
no_digits = refl

exponent_zero : compact_reading_of (codes "1c0") ≡ compact_nothing
exponent_zero = refl

zero_in_front : compact_reading_of (codes "1c06") ≡ compact_nothing
zero_in_front = refl

other_mark : compact_reading_of (codes "1e3") ≡ compact_nothing
other_mark = refl

no_front : compact_reading_of (codes "1xc256") ≡ compact_nothing
no_front = refl

-- ---- answers

abbrev pub of_type : ℕ → List ℕ → TypePatterns
of_type place suffix = record { log10_type = place; exponent = place; patterns = only_other (around [] suffix) }

-- `K` from thousands on, `M` from millions on
abbrev pub english : CompactTables
english = record {
  plain = record { symbols = english_symbols; digits = codes "0123456789"; strategy = Auto };
  rules = record { zero = None; one = None; two = None; few = None; many = None };
  patterns = table_of (of_type 3 (codes "K") ∷ of_type 6 (codes "M") ∷ []);
}

abbrev pub zero_of : SignedValue Number
zero_of = record { sign = Negative; absolute = record { count = 0; low = 32768; high = 32768 } }

-- the value has the sign of the text
zero_shown : number_answer (compact_tables english) zero_of ≡ codes "ok" ++ tab ∷ codes "-0" ++ tab ∷ codes "-0"
unfolding count_limit lowest_place lib.Utf8.encode
zero_shown = refl

-- digits of its own: two fraction digits
abbrev hundredths : NumberOptions
hundredths = record {
  rounding = At (negsuc 1) (Unsigned HalfEven) MultiplesOf1;
  leading_zeros = leading.Keep;
  zeros = trailing.Trim;
  integer_digits = pos 0;
  fraction_digits = pos 2;
  sign = Keep;
}

zero_hundredths : number_answer (digits_tables english hundredths) zero_of ≡ codes "ok" ++ tab ∷ codes "-0.00" ++ tab ∷ codes "-0.00"
unfolding changed_under count_limit digits_shown lowest_place lib.Utf8.encode
zero_hundredths = refl

zero_millions : exact_found (Ok (compact_tables english)) (Show display.Negative) (compact_number (record { significand = zero_of; exponent = 6 })) ≡ codes "ok" ++ tab ∷ codes "0M"
unfolding lib.Utf8.encode
zero_millions = refl

zero_of_no_pattern : exact_answer (compact_tables english) (record { significand = zero_of; exponent = 5 }) ≡ codes "err" ++ tab ∷ codes "exponent"
zero_of_no_pattern = refl

-- a format without patterns has the exponent 0 alone
zero_of_plain : exact_answer (plain_tables english.plain) (record { significand = zero_of; exponent = 0 }) ≡ codes "ok" ++ tab ∷ codes "-0"
unfolding lib.Utf8.encode
zero_of_plain = refl

other_of_plain : exact_answer (plain_tables english.plain) (record { significand = zero_of; exponent = 3 }) ≡ codes "err" ++ tab ∷ codes "exponent"
other_of_plain = refl

no_table_exact : exact_with (Err DataError.IdentifierNotFound) (record { significand = zero_of; exponent = 6 }) ≡ codes "err" ++ tab ∷ codes "table"
no_table_exact = refl
