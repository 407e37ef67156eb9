-- Known values of the definitions: lines taken apart, the words of their fields.
use Rattle.std.proofs.Common.{◌≡◌, [], ◌∷◌, ◌++◌, codes, pos, negsuc, Some, None, refl, ℕ, ℤ, List, Option, ◌-◌, ◌*◌, ◌^◌}
use Rattle.fixed_decimal.specs.Number.{Number}
use Rattle.fixed_decimal.specs.declared.SignedRoundingMode.TheVariants.{Unsigned}
use Rattle.fixed_decimal.specs.declared.UnsignedRoundingMode.TheVariants.{HalfEven, HalfExpand, HalfTrunc, Trunc}
use Rattle.fixed_decimal.specs.declared.RoundingIncrement.{RoundingIncrement}
use Rattle.fixed_decimal.specs.declared.RoundingIncrement.TheVariants.{MultiplesOf1, MultiplesOf2, MultiplesOf5, MultiplesOf25}
use Rattle.icu_decimal_scientific.specs.declared.ExponentSign.{ExponentSign}
use Rattle.icu_decimal_scientific.specs.declared.ExponentSign.TheVariants as exponent
use Rattle.icu_decimal_scientific.specs.declared.ScientificNotation.{ScientificNotation}
use Rattle.icu_decimal_scientific.specs.declared.ScientificNotation.TheVariants as scientific
use Rattle.icu_decimal_symbols.specs.declared.options.GroupingStrategy.{GroupingStrategy}
use Rattle.icu_decimal_symbols.specs.declared.options.GroupingStrategy.TheVariants.{Auto, Min2, OnAligned}
use Rattle.icu_dimension_fractions.specs.declared.CurrencyStyle.TheVariants as style
use Rattle.icu_dimension_fractions.specs.declared.CurrencyWidth.TheVariants.{Short, IsoCode}
use Rattle.icu_dimension_fractions.specs.declared.PercentSign.TheVariants as sign
use Rattle.icu_plurals.specs.declared.PluralRuleType.TheVariants.{Cardinal, Ordinal}
use Rattle.locale_numbers_formats.specs.Changed.{shown, unchanged}
use Rattle.locale_numbers_formats.specs.declared.CompactWidth.TheVariants as compact
use Rattle.locale_numbers_formats.specs.declared.LeadingZeros.TheVariants as leading
use Rattle.locale_numbers_formats.specs.declared.Notation.TheVariants.{Standard, Compact, CompactDigits, Scientific}
use Rattle.locale_numbers_formats.specs.declared.NumberFormat.{NumberFormat}
use Rattle.locale_numbers_formats.specs.declared.NumberOptions.{NumberOptions}
use Rattle.locale_numbers_formats.specs.declared.NumberUnit.{NumberUnit}
use Rattle.locale_numbers_formats.specs.declared.NumberUnit.TheVariants as unit
use Rattle.locale_numbers_formats.specs.declared.NumberUnit.TheVariants.{Percent, Currency}
use Rattle.locale_numbers_formats.specs.declared.Rounding.{Rounding}
use Rattle.locale_numbers_formats.specs.declared.Rounding.TheVariants.{Usual, Cash, AsGiven, At, Significant, Either}
use Rattle.locale_numbers_formats.specs.declared.RoundingPriority.TheVariants.{MorePrecision, LessPrecision}
use Rattle.locale_numbers_formats.specs.declared.SignAsked.TheVariants.{Keep, Show}
use Rattle.locale_numbers_formats.specs.declared.TrailingZeros.{TrailingZeros}
use Rattle.locale_numbers_formats.specs.declared.TrailingZeros.TheVariants as trailing
use Rattle.fixed_decimal.specs.declared.SignDisplay.TheVariants as display
use Rattle.locale_numbers_requests.specs.FormField.{form_named}
use Rattle.locale_numbers_requests.specs.OldRequests.{old_form_named, old_grouping_named, old_rounding_named}
use Rattle.locale_numbers_requests.specs.RangeEnds.{range_ends}
use Rattle.locale_numbers_requests.specs.Request.{tab, fields, format_by, request_in, grouping_named, sign_named}
use Rattle.locale_numbers_requests.specs.RoundingField.{all_of, position_named, rounding_named}
use Rattle.locale_numbers_requests.specs.declared.form_field.FormAsked.TheVariants.{OfWord, OfSkeleton}
use Rattle.locale_numbers_requests.specs.declared.rounding_field.DigitsAsked.{DigitsAsked}
use Rattle.locale_numbers_requests.specs.declared.form_field.Task.TheVariants.{Write, WriteExact, Read, ReadLenient, Category, RangeCategory}

-- the format of a line that chooses no digits and keeps the sign of the text
abbrev by_words : NumberUnit → GroupingStrategy → Rounding → NumberFormat
by_words unit grouping rounding = record {
  shape = record { notation = Standard; unit = unit; grouping = grouping };
  options = record { rounding = rounding; leading_zeros = leading.Keep; zeros = trailing.Keep; integer_digits = pos 0; fraction_digits = pos 0; sign = Keep };
}

-- those of a word of the rounding field
abbrev digits_of : Option DigitsAsked → NumberOptions
digits_of None = (by_words unit.None Auto Usual).options
digits_of (Some digits) = (format_by Standard unit.None Auto Keep digits).options

-- a rounding by an increment with zeros behind: to multiples of its digits at a position, with so many digits of a fraction
abbrev raised_to : ℤ → RoundingIncrement → TrailingZeros → ℕ → DigitsAsked
raised_to position increment zeros fraction =
    record { rounding = At position (Unsigned HalfEven) increment; leading_zeros = leading.TrimRoundedZero; zeros = zeros; fraction_digits = pos fraction }

abbrev options : List ℕ → NumberOptions
options word = digits_of (rounding_named word)

-- what is shown of a number that was rounded by such a word
abbrev seen : List ℕ → Number → Number
seen word value = shown (options word).rounding (options word) value

-- a count of the least unit shown, with so many digits after the point, and one before it
abbrev number : ℕ → ℕ → Number
number count fraction = record { count = count * 10 ^ (32768 - fraction); low = 32768 - fraction; high = 32768 }

-- ---- request lines

-- two tabs in a row hold an empty field
empty_field : fields (codes "a" ++ tab ∷ tab ∷ codes "b") ≡ codes "a" ∷ [] ∷ codes "b" ∷ []
empty_field = refl

plain_line : request_in (codes "en" ∷ codes "plain" ∷ codes "min2" ∷ codes "keep" ∷ codes "-" ∷ codes "1000" ∷ [])
    ≡ Some (record { tag = codes "en"; task = Write; format = by_words unit.None Min2 Usual; text = codes "1000" })
plain_line = refl

-- what is read back has the sign and the digits of the text
read_line : request_in (codes "en" ∷ codes "read" ∷ codes "min2" ∷ codes "keep" ∷ codes "-" ∷ codes "1,000" ∷ [])
    ≡ Some (record { tag = codes "en"; task = Read; format = by_words unit.None Min2 Usual; text = codes "1,000" })
read_line = refl

-- and so has what is read leniently
lenient_line : request_in (codes "en" ∷ codes "read-lenient" ∷ codes "auto" ∷ codes "keep" ∷ codes "-" ∷ codes ".5" ∷ [])
    ≡ Some (record { tag = codes "en"; task = ReadLenient; format = by_words unit.None Auto Usual; text = codes ".5" })
lenient_line = refl

lenient_with_a_sign : request_in (codes "en" ∷ codes "read-lenient" ∷ codes "auto" ∷ codes "always" ∷ codes "-" ∷ codes "5" ∷ []) ≡ None
lenient_with_a_sign = refl

read_with_a_sign : request_in (codes "en" ∷ codes "read" ∷ codes "auto" ∷ codes "auto" ∷ codes "-" ∷ codes "5" ∷ []) ≡ None
read_with_a_sign = refl

read_with_a_rounding : request_in (codes "en" ∷ codes "read" ∷ codes "auto" ∷ codes "keep" ∷ codes "0,trunc,1" ∷ codes "5" ∷ []) ≡ None
read_with_a_rounding = refl

five_fields : request_in (codes "en" ∷ codes "plain" ∷ codes "auto" ∷ codes "keep" ∷ codes "-" ∷ []) ≡ None
five_fields = refl

seven_fields : request_in (codes "en" ∷ codes "plain" ∷ codes "auto" ∷ codes "keep" ∷ codes "-" ∷ codes "1" ∷ [] ∷ []) ≡ None
seven_fields = refl

-- words are told apart by case, and a part of one is not one
capital_word : grouping_named (codes "Auto") ≡ None
capital_word = refl

aligned_word : grouping_named (codes "on-aligned") ≡ Some OnAligned
aligned_word = refl

short_word : grouping_named (codes "min") ≡ None
short_word = refl

no_such_sign : sign_named (codes "plus") ≡ None
no_such_sign = refl

-- ---- units

percent_line : request_in (codes "tr" ∷ codes "percent" ∷ codes "auto" ∷ codes "keep" ∷ codes "-" ∷ codes "-12.5" ∷ [])
    ≡ Some (record { tag = codes "tr"; task = Write; format = by_words (Percent sign.Percent) Auto Usual; text = codes "-12.5" })
percent_line = refl

amount_line : request_in (codes "en" ∷ codes "currency-EUR" ∷ codes "auto" ∷ codes "keep" ∷ codes "-" ∷ codes "1234.5" ∷ [])
    ≡ Some (record { tag = codes "en"; task = Write; format = by_words (Currency (record { code = codes "EUR"; style = style.Standard; width = Short })) Auto Usual; text = codes "1234.5" })
amount_line = refl

accounting_word : form_named (codes "accounting-USD") ≡ Some (OfWord Write Standard (Currency (record { code = codes "USD"; style = style.Accounting; width = Short })))
accounting_word = refl

code_word : form_named (codes "code-QQQ") ≡ Some (OfWord Write Standard (Currency (record { code = codes "QQQ"; style = style.Standard; width = IsoCode })))
code_word = refl

read_amount_word : form_named (codes "read-code-CHF") ≡ Some (OfWord Read Standard (Currency (record { code = codes "CHF"; style = style.Standard; width = IsoCode })))
read_amount_word = refl

typed_percent_word : form_named (codes "read-lenient-percent") ≡ Some (OfWord ReadLenient Standard (Percent sign.Percent))
typed_percent_word = refl

permille_word : form_named (codes "permille") ≡ Some (OfWord Write Standard (Percent sign.Permille))
permille_word = refl

read_permille_word : form_named (codes "read-permille") ≡ Some (OfWord Read Standard (Percent sign.Permille))
read_permille_word = refl

typed_permille_word : form_named (codes "read-lenient-permille") ≡ Some (OfWord ReadLenient Standard (Percent sign.Permille))
typed_permille_word = refl

typed_amount_word : form_named (codes "read-lenient-currency-EUR") ≡ Some (OfWord ReadLenient Standard (Currency (record { code = codes "EUR"; style = style.Standard; width = Short })))
typed_amount_word = refl

typed_accounting_word : form_named (codes "read-lenient-accounting-USD") ≡ Some (OfWord ReadLenient Standard (Currency (record { code = codes "USD"; style = style.Accounting; width = Short })))
typed_accounting_word = refl

typed_code_word : form_named (codes "read-lenient-code-QQQ") ≡ Some (OfWord ReadLenient Standard (Currency (record { code = codes "QQQ"; style = style.Standard; width = IsoCode })))
typed_code_word = refl

-- a code is three capitals
small_code : form_named (codes "currency-eur") ≡ None
small_code = refl

small_typed_code : form_named (codes "read-lenient-currency-eur") ≡ None
small_typed_code = refl

long_code : form_named (codes "currency-EURO") ≡ None
long_code = refl

no_code : form_named (codes "currency-") ≡ None
no_code = refl

only_a_code : form_named (codes "EUR") ≡ None
only_a_code = refl

other_word : form_named (codes "names-EUR") ≡ None
other_word = refl

-- only an amount has digits of cash, written or read
cash_line : request_in (codes "en" ∷ codes "currency-CHF" ∷ codes "auto" ∷ codes "keep" ∷ codes "cash" ∷ codes "2.345" ∷ [])
    ≡ Some (record { tag = codes "en"; task = Write; format = by_words (Currency (record { code = codes "CHF"; style = style.Standard; width = Short })) Auto Cash; text = codes "2.345" })
cash_line = refl

read_cash_line : request_in (codes "en" ∷ codes "read-currency-CHF" ∷ codes "auto" ∷ codes "keep" ∷ codes "cash" ∷ codes "2.35" ∷ [])
    ≡ Some (record { tag = codes "en"; task = Read; format = by_words (Currency (record { code = codes "CHF"; style = style.Standard; width = Short })) Auto Cash; text = codes "2.35" })
read_cash_line = refl

typed_cash_line : request_in (codes "en" ∷ codes "read-lenient-currency-CHF" ∷ codes "auto" ∷ codes "keep" ∷ codes "cash" ∷ codes "2.35" ∷ [])
    ≡ Some (record { tag = codes "en"; task = ReadLenient; format = by_words (Currency (record { code = codes "CHF"; style = style.Standard; width = Short })) Auto Cash; text = codes "2.35" })
typed_cash_line = refl

typed_percent_in_cash : request_in (codes "en" ∷ codes "read-lenient-percent" ∷ codes "auto" ∷ codes "keep" ∷ codes "cash" ∷ codes "1" ∷ []) ≡ None
typed_percent_in_cash = refl

typed_amount_with_a_sign : request_in (codes "en" ∷ codes "read-lenient-currency-EUR" ∷ codes "auto" ∷ codes "auto" ∷ codes "-" ∷ codes "5" ∷ []) ≡ None
typed_amount_with_a_sign = refl

typed_amount_with_a_rounding : request_in (codes "en" ∷ codes "read-lenient-currency-EUR" ∷ codes "auto" ∷ codes "keep" ∷ codes "0,trunc,1" ∷ codes "5" ∷ []) ≡ None
typed_amount_with_a_rounding = refl

percent_in_cash : request_in (codes "en" ∷ codes "percent" ∷ codes "auto" ∷ codes "keep" ∷ codes "cash" ∷ codes "1" ∷ []) ≡ None
percent_in_cash = refl

permille_in_cash : request_in (codes "en" ∷ codes "permille" ∷ codes "auto" ∷ codes "keep" ∷ codes "cash" ∷ codes "1" ∷ []) ≡ None
permille_in_cash = refl

plain_in_cash : request_in (codes "en" ∷ codes "plain" ∷ codes "auto" ∷ codes "keep" ∷ codes "cash" ∷ codes "1" ∷ []) ≡ None
plain_in_cash = refl

exact_in_cash : request_in (codes "en" ∷ codes "exact-short" ∷ codes "auto" ∷ codes "keep" ∷ codes "cash" ∷ codes "1c3" ∷ []) ≡ None
exact_in_cash = refl

read_percent_with_a_rounding : request_in (codes "en" ∷ codes "read-percent" ∷ codes "auto" ∷ codes "keep" ∷ codes "0,trunc,1" ∷ codes "5%" ∷ []) ≡ None
read_percent_with_a_rounding = refl

read_amount_with_a_rounding : request_in (codes "en" ∷ codes "read-currency-EUR" ∷ codes "auto" ∷ codes "keep" ∷ codes "0,trunc,1" ∷ codes "5" ∷ []) ≡ None
read_amount_with_a_rounding = refl

read_amount_with_a_sign : request_in (codes "en" ∷ codes "read-currency-EUR" ∷ codes "auto" ∷ codes "auto" ∷ codes "-" ∷ codes "5" ∷ []) ≡ None
read_amount_with_a_sign = refl

-- ---- skeletons

-- the format of a skeleton that chooses no sign
abbrev by_skeleton : NumberUnit → Rounding → TrailingZeros → NumberFormat
by_skeleton unit rounding zeros = record {
  shape = record { notation = Standard; unit = unit; grouping = Auto };
  options = record { rounding = rounding; leading_zeros = leading.Trim; zeros = zeros; integer_digits = pos 0; fraction_digits = pos 0; sign = Show display.Auto };
}

-- the options of one that shows so many digits after the point
abbrev by_hundredths : TrailingZeros → ℕ → NumberOptions
by_hundredths zeros fraction =
    record { rounding = At (negsuc 1) (Unsigned HalfEven) MultiplesOf1; leading_zeros = leading.Trim; zeros = zeros; integer_digits = pos 0; fraction_digits = pos fraction; sign = Show display.Auto }

skeleton_word : form_named (codes "::percent") ≡ Some (OfSkeleton Write (by_skeleton (Percent sign.Percent) (At (negsuc 5) (Unsigned HalfEven) MultiplesOf1) trailing.Trim))
skeleton_word = refl

amount_skeleton : form_named (codes "::currency/EUR")
    ≡ Some (OfSkeleton Write (by_skeleton (Currency (record { code = codes "EUR"; style = style.Standard; width = Short })) Usual trailing.Keep))
amount_skeleton = refl

-- what is read is not rounded, but that an amount may have the digits of its currency
read_skeleton : form_named (codes "read::percent") ≡ Some (OfSkeleton Read (by_skeleton (Percent sign.Percent) AsGiven trailing.Trim))
read_skeleton = refl

typed_skeleton : form_named (codes "read-lenient::currency/EUR")
    ≡ Some (OfSkeleton ReadLenient (by_skeleton (Currency (record { code = codes "EUR"; style = style.Standard; width = Short })) Usual trailing.Keep))
typed_skeleton = refl

exact_skeleton : form_named (codes "exact::compact-long group-auto")
    ≡ Some (OfSkeleton WriteExact (record {
      shape = record { notation = Compact compact.Long; unit = unit.None; grouping = Auto };
      options = record { rounding = AsGiven; leading_zeros = leading.Trim; zeros = trailing.Trim; integer_digits = pos 0; fraction_digits = pos 0; sign = Show display.Auto };
    }))
exact_skeleton = refl

-- digits of their own are those of what is before the pattern, and nothing changes the number
abbrev with_digits : NumberFormat
with_digits = record {
  shape = record { notation = CompactDigits compact.Short (by_hundredths trailing.Trim 2); unit = unit.None; grouping = Min2 };
  options = unchanged;
}

digits_skeleton : form_named (codes "::compact-short .00") ≡ Some (OfSkeleton Write with_digits)
digits_skeleton = refl

-- of an exact form they are given, so only the sign is chosen
exact_digits : form_named (codes "exact::compact-short .00")
    ≡ Some (OfSkeleton WriteExact (record { shape = record { notation = Compact compact.Short; unit = unit.None; grouping = Min2 }; options = by_hundredths trailing.Trim 2 }))
exact_digits = refl

-- an exponent goes with compact numbers
exact_percent : form_named (codes "exact::percent") ≡ None
exact_percent = refl

no_skeleton : form_named (codes "::nothing") ≡ None
no_skeleton = refl

one_colon : form_named (codes ":percent") ≡ None
one_colon = refl

three_colons : form_named (codes "read:::percent") ≡ None
three_colons = refl

other_task : form_named (codes "write::percent") ≡ None
other_task = refl

-- a skeleton says all
skeleton_line : request_in (codes "en" ∷ codes "::percent" ∷ codes "auto" ∷ codes "keep" ∷ codes "-" ∷ codes "1" ∷ [])
    ≡ Some (record { tag = codes "en"; task = Write; format = by_skeleton (Percent sign.Percent) (At (negsuc 5) (Unsigned HalfEven) MultiplesOf1) trailing.Trim; text = codes "1" })
skeleton_line = refl

skeleton_with_a_grouping : request_in (codes "en" ∷ codes "::percent" ∷ codes "min2" ∷ codes "keep" ∷ codes "-" ∷ codes "1" ∷ []) ≡ None
skeleton_with_a_grouping = refl

skeleton_with_a_sign : request_in (codes "en" ∷ codes "::percent" ∷ codes "auto" ∷ codes "auto" ∷ codes "-" ∷ codes "1" ∷ []) ≡ None
skeleton_with_a_sign = refl

skeleton_in_cash : request_in (codes "en" ∷ codes "::currency/CHF" ∷ codes "auto" ∷ codes "keep" ∷ codes "cash" ∷ codes "1" ∷ []) ≡ None
skeleton_in_cash = refl

-- ---- scientific numbers

-- what is made of a significand, and with how many digits and which sign an exponent is shown
abbrev with_exponents : ScientificNotation → ExponentSign → ℕ → NumberOptions → NumberFormat
with_exponents notation sign digits options = record {
  shape = record { notation = Scientific (record { notation = notation; exponents = record { sign = sign; least_digits = digits } }) options; unit = unit.None; grouping = Auto };
  options = unchanged;
}

-- those of the words
abbrev by_notation : ScientificNotation → NumberOptions → NumberFormat
by_notation notation options = with_exponents notation exponent.Auto 0 options

-- the significand of a skeleton has six digits after the point at most
abbrev six_after_point : NumberOptions
six_after_point = (by_skeleton unit.None (At (negsuc 5) (Unsigned HalfEven) MultiplesOf1) trailing.Trim).options

-- nothing is made of the number, and nothing of its significand
scientific_line : request_in (codes "en" ∷ codes "scientific" ∷ codes "auto" ∷ codes "keep" ∷ codes "-" ∷ codes "1234567" ∷ [])
    ≡ Some (record { tag = codes "en"; task = Write; format = by_notation scientific.Scientific (by_words unit.None Auto Usual).options; text = codes "1234567" })
scientific_line = refl

-- the digits and the sign are those of the significand
three_digits : request_in (codes "en" ∷ codes "scientific" ∷ codes "auto" ∷ codes "keep" ∷ codes "s1-3,half-even" ∷ codes "1234567" ∷ [])
    ≡ Some (record {
      tag = codes "en";
      task = Write;
      format = by_notation scientific.Scientific (record { rounding = Significant (record { least = 1; most = 3 }) (Unsigned HalfEven); leading_zeros = leading.Keep; zeros = trailing.Trim; integer_digits = pos 0; fraction_digits = pos 0; sign = Keep });
      text = codes "1234567";
    })
three_digits = refl

engineering_line : request_in (codes "de" ∷ codes "engineering" ∷ codes "auto" ∷ codes "always" ∷ codes "f2-2,half-even,1" ∷ codes "12000" ∷ [])
    ≡ Some (record {
      tag = codes "de";
      task = Write;
      format = by_notation scientific.Engineering (record { rounding = At (negsuc 1) (Unsigned HalfEven) MultiplesOf1; leading_zeros = leading.Keep; zeros = trailing.Trim; integer_digits = pos 0; fraction_digits = pos 2; sign = Show display.Always });
      text = codes "12000";
    })
engineering_line = refl

-- there are no digits of cash, and nothing is read
scientific_in_cash : request_in (codes "en" ∷ codes "scientific" ∷ codes "auto" ∷ codes "keep" ∷ codes "cash" ∷ codes "1" ∷ []) ≡ None
scientific_in_cash = refl

read_scientific_word : form_named (codes "read-scientific") ≡ None
read_scientific_word = refl

exact_scientific_word : form_named (codes "exact-scientific") ≡ None
exact_scientific_word = refl

scientific_skeleton : form_named (codes "::scientific") ≡ Some (OfSkeleton Write (by_notation scientific.Scientific six_after_point))
scientific_skeleton = refl

two_exponent_digits : form_named (codes "::scientific/*ee") ≡ Some (OfSkeleton Write (with_exponents scientific.Scientific exponent.Auto 2 six_after_point))
two_exponent_digits = refl

signed_exponents : form_named (codes "::engineering/sign-always .00") ≡ Some (OfSkeleton Write (with_exponents scientific.Engineering exponent.Always 0 (by_hundredths trailing.Trim 2)))
signed_exponents = refl

plural_scientific : form_named (codes "plural::scientific") ≡ Some (OfSkeleton (Category Cardinal) (by_notation scientific.Scientific six_after_point))
plural_scientific = refl

-- a form, whose text can't be read
read_scientific : form_named (codes "read::scientific") ≡ Some (OfSkeleton Read (by_notation scientific.Scientific six_after_point))
read_scientific = refl

-- an exponent is given only for compact numbers
exact_scientific : form_named (codes "exact::scientific") ≡ None
exact_scientific = refl

-- ---- plural categories

plural_line : request_in (codes "en" ∷ codes "plural" ∷ codes "auto" ∷ codes "keep" ∷ codes "-" ∷ codes "1" ∷ [])
    ≡ Some (record { tag = codes "en"; task = Category Cardinal; format = by_words unit.None Auto Usual; text = codes "1" })
plural_line = refl

ordinal_word : form_named (codes "ordinal") ≡ Some (OfWord (Category Ordinal) Standard unit.None)
ordinal_word = refl

range_word : form_named (codes "range-plural") ≡ Some (OfWord RangeCategory Standard unit.None)
range_word = refl

-- they take any sign and rounding that a plain number takes
rounded_plural : request_in (codes "pl" ∷ codes "plural" ∷ codes "min2" ∷ codes "always" ∷ codes "0,trunc,1" ∷ codes "2.5" ∷ [])
    ≡ Some (record { tag = codes "pl"; task = Category Cardinal; format = format_by Standard unit.None Min2 (Show display.Always) (all_of (At (pos 0) (Unsigned Trunc) MultiplesOf1)); text = codes "2.5" })
rounded_plural = refl

plural_in_cash : request_in (codes "en" ∷ codes "plural" ∷ codes "auto" ∷ codes "keep" ∷ codes "cash" ∷ codes "1" ∷ []) ≡ None
plural_in_cash = refl

ordinal_in_cash : request_in (codes "en" ∷ codes "ordinal" ∷ codes "auto" ∷ codes "keep" ∷ codes "cash" ∷ codes "1" ∷ []) ≡ None
ordinal_in_cash = refl

range_in_cash : request_in (codes "en" ∷ codes "range-plural" ∷ codes "auto" ∷ codes "keep" ∷ codes "cash" ∷ codes "1..5" ∷ []) ≡ None
range_in_cash = refl

-- before a skeleton they ask for the category of what it shows
plural_skeleton : form_named (codes "plural::currency/EUR")
    ≡ Some (OfSkeleton (Category Cardinal) (by_skeleton (Currency (record { code = codes "EUR"; style = style.Standard; width = Short })) Usual trailing.Keep))
plural_skeleton = refl

ordinal_skeleton : form_named (codes "ordinal::percent") ≡ Some (OfSkeleton (Category Ordinal) (by_skeleton (Percent sign.Percent) (At (negsuc 5) (Unsigned HalfEven) MultiplesOf1) trailing.Trim))
ordinal_skeleton = refl

range_skeleton : form_named (codes "range-plural::currency/EUR")
    ≡ Some (OfSkeleton RangeCategory (by_skeleton (Currency (record { code = codes "EUR"; style = style.Standard; width = Short })) Usual trailing.Keep))
range_skeleton = refl

plural_of_nothing : form_named (codes "plural::nothing") ≡ None
plural_of_nothing = refl

skeleton_of_plurals : form_named (codes "plurals::percent") ≡ None
skeleton_of_plurals = refl

range_of_ordinals : form_named (codes "range-ordinal") ≡ None
range_of_ordinals = refl

-- the ends of a range are cut at the first two dots
two_ends : range_ends (codes "1..5") ≡ Some (codes "1", codes "5")
two_ends = refl

third_dot : range_ends (codes "1...5") ≡ Some (codes "1", codes ".5")
third_dot = refl

two_ranges : range_ends (codes "1..2..3") ≡ Some (codes "1", codes "2..3")
two_ranges = refl

no_ends : range_ends (codes "..") ≡ Some ([], [])
no_ends = refl

no_range : range_ends (codes "1") ≡ None
no_range = refl

one_dot : range_ends (codes "1.5") ≡ None
one_dot = refl

parted_dots : range_ends (codes ".1.") ≡ None
parted_dots = refl

-- ---- roundings

-- -7.235, rounded at the hundredths to a multiple of 25 of them
quarters : rounding_named (codes "-2,half-trunc,25") ≡ Some (all_of (At (negsuc 1) (Unsigned HalfTrunc) MultiplesOf25))
quarters = refl

least_position : position_named (codes "-32768") ≡ Some (negsuc 32767)
least_position = refl

greatest_position : position_named (codes "32767") ≡ Some (pos 32767)
greatest_position = refl

position_too_low : position_named (codes "-32769") ≡ None
position_too_low = refl

position_too_high : position_named (codes "32768") ≡ None
position_too_high = refl

position_with_plus : position_named (codes "+1") ≡ None
position_with_plus = refl

minus_zero : position_named (codes "-0") ≡ None
minus_zero = refl

zero_in_front : position_named (codes "01") ≡ None
zero_in_front = refl

no_position : position_named [] ≡ None
no_position = refl

half_of_a_mode : rounding_named (codes "0,half,1") ≡ None
half_of_a_mode = refl

third_increment : rounding_named (codes "0,trunc,3") ≡ None
third_increment = refl

one_comma : rounding_named (codes "0,trunc") ≡ None
one_comma = refl

-- ---- increments with zeros behind

-- 50 at the hundredths is 5 at the tenths, with two digits of a fraction
halves : rounding_named (codes "-2,half-even,50") ≡ Some (raised_to (negsuc 0) MultiplesOf5 trailing.Keep 2)
halves = refl

tens : rounding_named (codes "0,half-even,10") ≡ Some (raised_to (pos 1) MultiplesOf1 trailing.Keep 0)
tens = refl

twenties : rounding_named (codes "-1,half-even,20") ≡ Some (raised_to (pos 0) MultiplesOf2 trailing.Keep 1)
twenties = refl

hundreds : rounding_named (codes "0,half-even,100") ≡ Some (raised_to (pos 2) MultiplesOf1 trailing.Keep 0)
hundreds = refl

two_hundreds : rounding_named (codes "0,half-even,200") ≡ Some (raised_to (pos 2) MultiplesOf2 trailing.Keep 0)
two_hundreds = refl

wider_quarters : rounding_named (codes "-3,half-even,250") ≡ Some (raised_to (negsuc 1) MultiplesOf25 trailing.Keep 3)
wider_quarters = refl

five_hundreds : rounding_named (codes "-1,half-even,500") ≡ Some (raised_to (pos 1) MultiplesOf5 trailing.Keep 1)
five_hundreds = refl

thousands : rounding_named (codes "0,half-even,1000") ≡ Some (raised_to (pos 3) MultiplesOf1 trailing.Keep 0)
thousands = refl

two_thousands : rounding_named (codes "2,half-even,2000") ≡ Some (raised_to (pos 5) MultiplesOf2 trailing.Keep 0)
two_thousands = refl

widest_quarters : rounding_named (codes "-2,half-even,2500") ≡ Some (raised_to (pos 0) MultiplesOf25 trailing.Keep 2)
widest_quarters = refl

five_thousands : rounding_named (codes "-2,half-even,5000") ≡ Some (raised_to (pos 1) MultiplesOf5 trailing.Keep 2)
five_thousands = refl

-- of a fraction the zeros behind the least digits are not shown
halves_of_two : rounding_named (codes "f2-2,half-even,50") ≡ Some (raised_to (negsuc 0) MultiplesOf5 trailing.Trim 2)
halves_of_two = refl

halves_at_most : rounding_named (codes "f0-2,half-even,50") ≡ Some (raised_to (negsuc 0) MultiplesOf5 trailing.Trim 0)
halves_at_most = refl

halves_or_whole : rounding_named (codes "f2-2,half-even,50,whole") ≡ Some (raised_to (negsuc 0) MultiplesOf5 trailing.TrimWhole 2)
halves_or_whole = refl

-- the multiples are at a position up to 32767, and there are up to 32767 digits of a fraction
highest_tens : rounding_named (codes "32766,half-even,10") ≡ Some (raised_to (pos 32767) MultiplesOf1 trailing.Keep 0)
highest_tens = refl

tens_too_high : rounding_named (codes "32767,half-even,10") ≡ None
tens_too_high = refl

thousands_too_high : rounding_named (codes "32765,half-even,5000") ≡ None
thousands_too_high = refl

lowest_tens : rounding_named (codes "-32767,half-even,10") ≡ Some (raised_to (negsuc 32765) MultiplesOf1 trailing.Keep 32767)
lowest_tens = refl

tens_too_low : rounding_named (codes "-32768,half-even,10") ≡ None
tens_too_low = refl

lowest_ones : rounding_named (codes "-32768,half-even,1") ≡ Some (all_of (At (negsuc 32767) (Unsigned HalfEven) MultiplesOf1))
lowest_ones = refl

-- an increment is written with its digits alone
ten_thousand : rounding_named (codes "0,half-even,10000") ≡ None
ten_thousand = refl

thirty : rounding_named (codes "0,half-even,30") ≡ None
thirty = refl

zero_before_ten : rounding_named (codes "0,half-even,010") ≡ None
zero_before_ten = refl

significant_with_tens : rounding_named (codes "s1-3,half-even,10") ≡ None
significant_with_tens = refl

-- ---- digits of a fraction

-- two at most, and none that is not needed
two_at_most : rounding_named (codes "f0-2,half-even,1") ≡ Some (record { rounding = At (negsuc 1) (Unsigned HalfEven) MultiplesOf1; leading_zeros = leading.Keep; zeros = trailing.Trim; fraction_digits = pos 0 })
two_at_most = refl

one_to_three : rounding_named (codes "f1-3,half-expand,1") ≡ Some (record { rounding = At (negsuc 2) (Unsigned HalfExpand) MultiplesOf1; leading_zeros = leading.Keep; zeros = trailing.Trim; fraction_digits = pos 1 })
one_to_three = refl

-- to hundredths, 1.5 is `1.50`, and 2 is `2`
none_of_a_whole_number : rounding_named (codes "f2-2,half-expand,5,whole") ≡ Some (record { rounding = At (negsuc 1) (Unsigned HalfExpand) MultiplesOf5; leading_zeros = leading.Keep; zeros = trailing.TrimWhole; fraction_digits = pos 0 })
none_of_a_whole_number = refl

no_fraction : rounding_named (codes "f0-0,trunc,1") ≡ Some (record { rounding = At (pos 0) (Unsigned Trunc) MultiplesOf1; leading_zeros = leading.Keep; zeros = trailing.Trim; fraction_digits = pos 0 })
no_fraction = refl

most_digits : rounding_named (codes "f0-32767,trunc,1") ≡ Some (record { rounding = At (negsuc 32766) (Unsigned Trunc) MultiplesOf1; leading_zeros = leading.Keep; zeros = trailing.Trim; fraction_digits = pos 0 })
most_digits = refl

too_many_digits : rounding_named (codes "f0-32768,trunc,1") ≡ None
too_many_digits = refl

fewer_at_most : rounding_named (codes "f3-2,trunc,1") ≡ None
fewer_at_most = refl

zero_before_a_count : rounding_named (codes "f00-2,trunc,1") ≡ None
zero_before_a_count = refl

one_count : rounding_named (codes "f2,trunc,1") ≡ None
one_count = refl

three_counts : rounding_named (codes "f1-2-3,trunc,1") ≡ None
three_counts = refl

no_count : rounding_named (codes "f-2,trunc,1") ≡ None
no_count = refl

whole_of_a_range : rounding_named (codes "f0-2,trunc,1,whole") ≡ None
whole_of_a_range = refl

whole_of_a_position : rounding_named (codes "-2,trunc,1,whole") ≡ None
whole_of_a_position = refl

other_fourth_word : rounding_named (codes "f2-2,trunc,1,wholly") ≡ None
other_fourth_word = refl

five_words : rounding_named (codes "f2-2,trunc,1,whole,whole") ≡ None
five_words = refl

-- ---- significant digits

one_to_three_digits : rounding_named (codes "s1-3,half-even") ≡ Some (record { rounding = Significant (record { least = 1; most = 3 }) (Unsigned HalfEven); leading_zeros = leading.Keep; zeros = trailing.Trim; fraction_digits = pos 0 })
one_to_three_digits = refl

none_of_a_whole_one : rounding_named (codes "s2-2,trunc,whole") ≡ Some (record { rounding = Significant (record { least = 2; most = 2 }) (Unsigned Trunc); leading_zeros = leading.Keep; zeros = trailing.TrimAll; fraction_digits = pos 0 })
none_of_a_whole_one = refl

all_digits : rounding_named (codes "s1-65535,trunc") ≡ Some (record { rounding = Significant (record { least = 1; most = 65535 }) (Unsigned Trunc); leading_zeros = leading.Keep; zeros = trailing.Trim; fraction_digits = pos 0 })
all_digits = refl

-- digits of a fraction or significant ones
more_of_either : rounding_named (codes "f0-2,s2-3,more,half-even")
    ≡ Some (record { rounding = Either MorePrecision (negsuc 1) (record { least = 2; most = 3 }) (Unsigned HalfEven); leading_zeros = leading.Keep; zeros = trailing.Trim; fraction_digits = pos 0 })
more_of_either = refl

less_of_either : rounding_named (codes "f1-2,s3-3,less,trunc,whole")
    ≡ Some (record { rounding = Either LessPrecision (negsuc 1) (record { least = 3; most = 3 }) (Unsigned Trunc); leading_zeros = leading.Keep; zeros = trailing.TrimAll; fraction_digits = pos 1 })
less_of_either = refl

no_significant_digit : rounding_named (codes "s0-3,trunc") ≡ None
no_significant_digit = refl

too_many_significant : rounding_named (codes "s1-65536,trunc") ≡ None
too_many_significant = refl

fewer_significant : rounding_named (codes "s3-2,trunc") ≡ None
fewer_significant = refl

one_significant_count : rounding_named (codes "s3,trunc") ≡ None
one_significant_count = refl

significant_with_an_increment : rounding_named (codes "s1-3,trunc,5") ≡ None
significant_with_an_increment = refl

other_priority : rounding_named (codes "f0-2,s2-3,auto,trunc") ≡ None
other_priority = refl

position_or_digits : rounding_named (codes "-2,s2-3,more,trunc") ≡ None
position_or_digits = refl

digits_alone : rounding_named (codes "s1-3") ≡ None
digits_alone = refl

-- numbers are shown with these digits, once they are rounded: `1.5` of 1.50, `2` of 2.00, `2.0` of 2.000, `1.25` of 1.250
one_is_needed : seen (codes "f0-2,half-even,1") (number 150 2) ≡ number 15 1
one_is_needed = refl

none_is_needed : seen (codes "f0-2,half-even,1") (number 200 2) ≡ number 2 0
none_is_needed = refl

one_at_least : seen (codes "f1-3,half-expand,1") (number 2000 3) ≡ number 20 1
one_at_least = refl

two_are_needed : seen (codes "f1-3,half-expand,1") (number 1250 3) ≡ number 125 2
two_are_needed = refl

both_stay : seen (codes "f2-2,half-expand,5,whole") (number 150 2) ≡ number 150 2
both_stay = refl

both_go : seen (codes "f2-2,half-expand,5,whole") (number 200 2) ≡ number 2 0
both_go = refl

both_are_shown : seen (codes "f2-2,half-expand,5") (number 200 2) ≡ number 200 2
both_are_shown = refl

-- 1.5 to multiples of 50 hundredths is `1.50`, and by a choice from none `1.5`; a zero that tens leave is `0`, also where there were four digits
two_down : seen (codes "-2,half-even,50") (number 15 1) ≡ number 150 2
two_down = refl

one_at_most : seen (codes "f0-2,half-even,50") (number 15 1) ≡ number 15 1
one_at_most = refl

two_of_a_whole_one : seen (codes "f2-2,half-even,50,whole") (number 15 1) ≡ number 150 2
two_of_a_whole_one = refl

none_of_two : seen (codes "f2-2,half-even,50,whole") (number 20 1) ≡ number 2 0
none_of_two = refl

one_zero : seen (codes "0,half-even,1000") (record { count = 0; low = 32768; high = 32771 }) ≡ number 0 0
one_zero = refl

zero_of_tenths : seen (codes "-1,half-even,1000") (record { count = 0; low = 32768; high = 32769 }) ≡ number 0 1
zero_of_tenths = refl

-- ---- before there were newer forms, cash and increments

percent_was_none : old_form_named (codes "percent") ≡ None
percent_was_none = refl

permille_was_none : old_form_named (codes "permille") ≡ None
permille_was_none = refl

plain_was_itself : old_form_named (codes "plain") ≡ Some (OfWord Write Standard unit.None)
plain_was_itself = refl

significant_was_none : old_rounding_named (codes "s1-3,half-even") ≡ None
significant_was_none = refl

aligned_was_none : old_grouping_named (codes "on-aligned") ≡ None
aligned_was_none = refl

plural_was_none : old_form_named (codes "plural") ≡ None
plural_was_none = refl

scientific_was_none : old_form_named (codes "scientific") ≡ None
scientific_was_none = refl

cash_was_none : old_rounding_named (codes "cash") ≡ None
cash_was_none = refl

tens_were_none : old_rounding_named (codes "-2,half-even,50") ≡ None
tens_were_none = refl

quarters_were_themselves : old_rounding_named (codes "-2,half-even,25") ≡ Some (all_of (At (negsuc 1) (Unsigned HalfEven) MultiplesOf25))
quarters_were_themselves = refl
