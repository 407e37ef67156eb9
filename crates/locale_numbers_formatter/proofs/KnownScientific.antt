-- Values from outside that a wrong definition of scientific text does not survive: rows of docs/formatters.md, "One formatter", and docs/scientific-text.md.
use Rattle.std.proofs.Common.{◌≡◌, ℕ, zero, suc, ℤ, pos, negsuc, nat_lt, cond, min, max, ◌+◌, ◌-◌, ◌*◌, ◌%◌, ◌^◌, ◌<◌, ◌≤◌, false, true, List, [], ◌∷◌, ◌++◌, None, Some, refl, sym, ap, ◌∙◌, lit≤, arith, inr, subst, ⊎_elim}
use Rattle.std.specs.Prelude.{codes}
use Rattle.std.proofs.Math.Nat.{mod-one}
use Rattle.std.proofs.lemmas.Bool.{cases_lt}
use Rattle.fixed_decimal.specs.Number.{IsNumber, Number}
use Rattle.fixed_decimal.specs.Range.{IsHighest, IsLowest}
use Rattle.fixed_decimal.specs.Rounding.{count_limit}
use Rattle.fixed_decimal.specs.Shifts.{fall, rise}
use Rattle.fixed_decimal.specs.SignedValue.{SignedValue}
use Rattle.fixed_decimal.specs.declared.Sign.TheVariants.{None as NoSign, Negative}
use Rattle.fixed_decimal.specs.declared.RoundingIncrement.TheVariants.{MultiplesOf1}
use Rattle.fixed_decimal.specs.declared.SignedRoundingMode.TheVariants.{Unsigned}
use Rattle.fixed_decimal.specs.declared.UnsignedRoundingMode.TheVariants.{HalfEven}
use Rattle.icu_decimal.specs.PlainText.{Tables}
use Rattle.icu_decimal.specs.Symbols.{SymbolStrings, english_strings, english_symbols}
use Rattle.icu_decimal.specs.declared.options.GroupingStrategy.TheVariants.{Auto, Never}
use Rattle.icu_decimal_compact_value.specs.ShownValue.{magnitude}
use Rattle.icu_decimal_compact_value.proofs.MagnitudeLemmas.{IsTop, magnitude_unique}
use Rattle.icu_decimal_scientific.specs.ExponentialText.{ScientificSettings}
use Rattle.icu_decimal_scientific.specs.FormOf.{bare, carried, does_carry, ending, exponent_in, form_of, holding, raised, reach}
use Rattle.icu_decimal_scientific.specs.Scientific.{IsForm, ScientificParts}
use Rattle.icu_decimal_scientific.specs.ScientificLaws.{IsNormal}
use Rattle.icu_decimal_scientific.specs.declared.notation.ScientificNotation.{ScientificNotation}
use Rattle.icu_decimal_scientific.specs.declared.notation.ScientificNotation.TheVariants.{Scientific, Engineering}
use Rattle.icu_decimal_scientific.specs.declared.shown.ExponentSign.TheVariants as sign
use Rattle.icu_decimal_scientific.proofs.DivisionLemmas.{whole_below}
use Rattle.icu_decimal_scientific.proofs.FormLawLemmas.{normal_is_the_form}
use Rattle.icu_decimal_scientific.proofs.FormOfLemmas.{carried_some, carries, exponent_known, form_is_function, reaches_nothing}
use Rattle.icu_decimal_scientific.proofs.KnownValues.{highest_at, highest_ones, lowest_ones}
use Rattle.locale_numbers_formats.specs.Changed.{changed, fraction_trimmed, front_padded, padded_down, significant_place, unchanged}
use Rattle.locale_numbers_formats.specs.Rounded.{highest_of, holding_from, rounded}
use Rattle.locale_numbers_formats.specs.declared.options.NumberOptions.{NumberOptions}
use Rattle.locale_numbers_formats.specs.declared.options.Rounding.TheVariants as rounding
use Rattle.locale_numbers_formatter.specs.FormatText.{ScientificFormat, form_shown, form_with_power, format_text, format_value, scientific_tables, shown_text, text_of_shown, value_of_shown}
use Rattle.locale_numbers_formatter.specs.ShownOperands.{seen_of_form, shown_operands, value_operands}
use Rattle.locale_numbers_formatter.proofs.KnownOperands.{seen}
use Rattle.locale_numbers_formatter.proofs.ScientificLemmas.{form_seen, goes_on, stays}

-- ---- tables and formats

abbrev tables_of : SymbolStrings → List ℕ → Tables
tables_of strings digits = record { symbols = record { strings = strings; grouping_sizes = english_symbols.grouping_sizes }; digits = digits; strategy = Auto }

-- exponents with the same symbols and digits
abbrev settings_of : SymbolStrings → List ℕ → List ℕ → ScientificSettings
settings_of strings digits separator =
    record { tables = tables_of strings digits; separator = separator; exponents = record (tables_of strings digits) { strategy = Never } }

abbrev pub english : ScientificSettings
english = settings_of english_strings (codes "0123456789") (codes "E")

abbrev pub format_in : ScientificSettings → ScientificNotation → NumberOptions → ScientificFormat
format_in settings notation options =
    record { settings = settings; style = record { notation = notation; exponents = record { sign = sign.Auto; least_digits = 0 } }; options = options }

abbrev number : ℕ → ℕ → ℕ → Number
number count low high = record { count = count; low = low; high = high }

abbrev unsigned : Number → SignedValue Number
unsigned n = record { sign = NoSign; absolute = n }

abbrev minus : Number → SignedValue Number
minus n = record { sign = Negative; absolute = n }

abbrev parts : SignedValue Number → ℤ → ScientificParts
parts significand exponent = record { significand = significand; exponent = exponent }

-- ---- what is shown, by the form of a number

lowest_at : (n low : ℕ) → low ≤ 32768 → n % 10 ^ low ≡ 0 → ¬ (n % 10 ^ (low + 1) ≡ 0) → IsLowest 32768 n low
lowest_at n low l w part = record {
  under = l;
  whole = w;
  highest = λ p _ h. ⊎_elim (λ above. absurd (part (whole_below n p (low + 1) h (omega (arith, above))))) (λ below. below) (cases_lt low p);
}

-- a number without zeros at its ends
record IsBare (n : Number) : Type 0 where
  number : IsNumber n
  low : IsLowest 32768 n.count n.low
  high : IsHighest 32768 0 n.count n.high

-- the form of a number: a significand that is normal, and the number divided by ten to the exponent
module _ (notation : ScientificNotation) (d first : SignedValue Number) (e : ℤ) (is : IsNumber d.absolute) (sign : first.sign ≡ d.sign) (bare_first : IsBare first.absolute)
    (divided : first.absolute.count * 10 ^ rise e ≡ d.absolute.count * 10 ^ fall e) (normal : IsNormal notation first.absolute.count e) where
  form : IsForm notation d.absolute first.absolute e
  form = normal_is_the_form notation d.absolute first.absolute e is (record { count = divided; low = bare_first.low; high = bare_first.high }) normal

  known_form : parts first e ≡ form_of notation d
  known_form = form_is_function notation d (parts first e) is (record { sign = sign; absolute = form })

  known_exponent : e ≡ exponent_in notation d.absolute.count
  known_exponent = exponent_known notation d.absolute e is form.power

-- a normal significand reaches nothing
reach_none : (notation : ScientificNotation) (n : Number) → IsBare n → IsNormal notation n.count (pos 0) → does_carry notation n.count ≡ false
reach_none notation n is normal =
    let of_itself : IsForm notation n n (pos 0) = normal_is_the_form notation n n (pos 0) is.number (record { count = refl; low = is.low; high = is.high }) normal in
    reaches_nothing notation n.count (sym (ap rise (exponent_known notation n (pos 0) is.number of_itself.power)))

-- ---- numbers as they are

-- 1234567.891 is 1.234567891 and 6
abbrev large : Number
large = number (1234567891 * 10 ^ 32765) 32765 32774

abbrev long : Number
long = number (1234567891 * 10 ^ 32759) 32759 32768

is_large : IsNumber large
is_large = record { low = lit≤ tt; ones = lit≤ tt; high = lit≤ tt; whole = refl; below = lit≤ tt }

bare_long : IsBare long
bare_long = record {
  number = record { low = lit≤ tt; ones = lit≤ tt; high = lit≤ tt; whole = refl; below = lit≤ tt };
  low = lowest_at (1234567891 * 10 ^ 32759) 32759 (lit≤ tt) refl (λ e. omega (arith, e));
  high = highest_ones (1234567891 * 10 ^ 32759) (lit≤ tt);
}

abbrev plain_english : ScientificFormat
plain_english = format_in english Scientific unchanged

large_shown : form_shown plain_english (unsigned large) ≡ parts (unsigned long) (pos 6)
large_shown =
    stays plain_english (unsigned large) (unsigned long) (unsigned long) (pos 6)
    (known_form Scientific (unsigned large) (unsigned long) (pos 6) is_large refl bare_long refl (inr (record { multiple = refl; least = lit≤ tt; below = lit≤ tt })))
    refl (reach_none Scientific long bare_long (inr (record { multiple = refl; least = lit≤ tt; below = lit≤ tt })))

large_text : format_text (scientific_tables plain_english) (unsigned large) ≡ codes "1.234567891E6"
unfolding holding lib.Utf8.encode
large_text = ap (λ f. text_of_shown (form_with_power plain_english f)) large_shown

-- 0.00012 is 1.2 and -4, and in engineering notation 120 and -6
abbrev small : Number
small = number (12 * 10 ^ 32763) 32763 32768

abbrev twelve_tenths : Number
twelve_tenths = number (12 * 10 ^ 32767) 32767 32768

abbrev hundreds : Number
hundreds = number (12 * 10 ^ 32769) 32768 32770

is_small : IsNumber small
is_small = record { low = lit≤ tt; ones = lit≤ tt; high = lit≤ tt; whole = refl; below = lit≤ tt }

bare_tenths : IsBare twelve_tenths
bare_tenths = record {
  number = record { low = lit≤ tt; ones = lit≤ tt; high = lit≤ tt; whole = refl; below = lit≤ tt };
  low = lowest_at (12 * 10 ^ 32767) 32767 (lit≤ tt) refl (λ e. omega (arith, e));
  high = highest_ones (12 * 10 ^ 32767) (lit≤ tt);
}

bare_hundreds : IsBare hundreds
bare_hundreds = record {
  number = record { low = lit≤ tt; ones = lit≤ tt; high = lit≤ tt; whole = refl; below = lit≤ tt };
  low = lowest_ones (12 * 10 ^ 32769) refl;
  high = highest_at (12 * 10 ^ 32769) 32770 (lit≤ tt) (lit≤ tt) (lit≤ tt);
}

small_shown : (settings : ScientificSettings) → form_shown (format_in settings Scientific unchanged) (minus small) ≡ parts (minus twelve_tenths) (negsuc 3)
small_shown settings =
    stays (format_in settings Scientific unchanged) (minus small) (minus twelve_tenths) (minus twelve_tenths) (negsuc 3)
    (known_form Scientific (minus small) (minus twelve_tenths) (negsuc 3) is_small refl bare_tenths refl (inr (record { multiple = refl; least = lit≤ tt; below = lit≤ tt })))
    refl (reach_none Scientific twelve_tenths bare_tenths (inr (record { multiple = refl; least = lit≤ tt; below = lit≤ tt })))

small_text : format_text (scientific_tables plain_english) (minus small) ≡ codes "-1.2E-4"
unfolding holding lib.Utf8.encode
small_text = ap (λ f. text_of_shown (form_with_power plain_english f)) (small_shown english)

small_value : shown_text (format_value (scientific_tables plain_english) (minus small)) ≡ codes "-1.2e-4"
unfolding holding
small_value = ap (λ f. shown_text (value_of_shown (form_with_power plain_english f))) (small_shown english)

abbrev engineering_english : ScientificFormat
engineering_english = format_in english Engineering unchanged

small_by_threes : form_shown engineering_english (unsigned small) ≡ parts (unsigned hundreds) (negsuc 5)
small_by_threes =
    stays engineering_english (unsigned small) (unsigned hundreds) (unsigned hundreds) (negsuc 5)
    (known_form Engineering (unsigned small) (unsigned hundreds) (negsuc 5) is_small refl bare_hundreds refl (inr (record { multiple = refl; least = lit≤ tt; below = lit≤ tt })))
    refl (reach_none Engineering hundreds bare_hundreds (inr (record { multiple = refl; least = lit≤ tt; below = lit≤ tt })))

engineering_text : format_text (scientific_tables engineering_english) (unsigned small) ≡ codes "120E-6"
unfolding holding lib.Utf8.encode
engineering_text = ap (λ f. text_of_shown (form_with_power engineering_english f)) small_by_threes

-- zero is 0 and 0
zero_text : format_text (scientific_tables plain_english) (unsigned (number 0 32766 32768)) ≡ codes "0E0"
unfolding bare ending exponent_in holding lib.Utf8.encode
zero_text = refl

-- ---- other locales

-- Swedish: U+2212 before negative numbers, and U+00D7 before 10
abbrev swedish : ScientificSettings
swedish = settings_of (record english_strings { minus_sign_prefix = 226 ∷ 136 ∷ 146 ∷ []; decimal_separator = codes "," }) (codes "0123456789") (195 ∷ 151 ∷ codes "10^")

swedish_text : format_text (scientific_tables (format_in swedish Scientific unchanged)) (minus small)
    ≡ 226 ∷ 136 ∷ 146 ∷ (codes "1,2" ++ (195 ∷ 151 ∷ (codes "10^" ++ (226 ∷ 136 ∷ 146 ∷ codes "4"))))
unfolding holding lib.Utf8.encode
swedish_text = ap (λ f. text_of_shown (form_with_power (format_in swedish Scientific unchanged) f)) (small_shown swedish)

-- Egyptian Arabic: its own digits, U+061C before the signs, and U+0623 and U+0633 before exponents
abbrev pub arabic : ScientificSettings
arabic = settings_of (record english_strings { minus_sign_prefix = 216 ∷ 156 ∷ 45 ∷ []; decimal_separator = 217 ∷ 171 ∷ [] })
    (1632 ∷ 1633 ∷ 1634 ∷ 1635 ∷ 1636 ∷ 1637 ∷ 1638 ∷ 1639 ∷ 1640 ∷ 1641 ∷ []) (216 ∷ 163 ∷ 216 ∷ 179 ∷ [])

arabic_text : format_text (scientific_tables (format_in arabic Scientific unchanged)) (minus small)
    ≡ 216 ∷ 156 ∷ 45 ∷ 217 ∷ 161 ∷ 217 ∷ 171 ∷ 217 ∷ 162 ∷ 216 ∷ 163 ∷ 216 ∷ 179 ∷ 216 ∷ 156 ∷ 45 ∷ 217 ∷ 164 ∷ []
unfolding holding lib.Utf8.encode
arabic_text = ap (λ f. text_of_shown (form_with_power (format_in arabic Scientific unchanged) f)) (small_shown arabic)

-- ---- significant digits, by the places of the first digit of a number and of what is rounded

-- at least so many, and at most three
abbrev digits : ℕ → NumberOptions
digits least = record unchanged { rounding = rounding.Significant (record { least = least; most = 3 }) (Unsigned HalfEven) }

-- the count of the multiple that is taken
abbrev count_at : ℕ → SignedValue Number → ℕ
count_at first v = (rounded (Unsigned HalfEven) MultiplesOf1 (significant_place 3 first) v).absolute.count

abbrev changed_at : ℕ → ℕ → ℕ → ℕ → SignedValue Number → SignedValue Number
changed_at least first next high v =
    let taken : Number = record { count = count_at first v; low = min (significant_place 3 first) 32768; high = high } in
    record { sign = v.sign; absolute = padded_down (significant_place least next) (front_padded (pos 0) (fraction_trimmed taken)) }

abbrev high_at : ℕ → SignedValue Number → ℕ
high_at first v = highest_of v.absolute.high (significant_place 3 first) (count_at first v)

changed_so : (least first next high : ℕ) (v : SignedValue Number) → IsTop v.absolute.count first → IsTop (count_at first v) next → high_at first v ≡ high
    → changed (digits (suc least)) None v ≡ changed_at (suc least) first next high v
changed_so least first next high v top top_next high_is =
    ap (λ m. changed_at (suc least) m (magnitude 32768 (count_at m v)) (high_at m v) v) (magnitude_unique 32768 v.absolute.count first top)
    ∙ ap (λ m. changed_at (suc least) first m (high_at first v) v) (magnitude_unique 32768 (count_at first v) next top_next)
    ∙ ap (λ h. changed_at (suc least) first next h v) high_is

-- the highest place stays, or is the next one
holds_here : (fuel from count : ℕ) → nat_lt count (10 ^ (from + 1)) ≡ true → holding_from fuel from count ≡ from
holds_here zero from count test = refl
holds_here (suc more) from count test = ap (λ b. cond b from (holding_from more (suc from) count)) test

holds_next : (fuel from count : ℕ) → 0 < fuel → nat_lt count (10 ^ (from + 1)) ≡ false → nat_lt count (10 ^ (suc from + 1)) ≡ true → holding_from fuel from count ≡ suc from
holds_next zero from count some over under = absurd (omega (arith, some))
holds_next (suc more) from count some over under = ap (λ b. cond b from (holding_from more (suc from) count)) over ∙ holds_here more (suc from) count under

high_stays : (old at count : ℕ) → max old (at - 1) ≡ old → nat_lt count (10 ^ (old + 1)) ≡ true → highest_of old at count ≡ old
high_stays old at count over test = ap (λ from. holding_from count from count) over ∙ holds_here count old count test

high_rises : (old at count : ℕ) → max old (at - 1) ≡ old → 0 < count → nat_lt count (10 ^ (old + 1)) ≡ false → nat_lt count (10 ^ (suc old + 1)) ≡ true → highest_of old at count ≡ suc old
high_rises old at count over some test under = ap (λ from. holding_from count from count) over ∙ holds_next count old count some test under

-- 999999 is 9.99999 and 5
abbrev nines : SignedValue Number
nines = unsigned (number (999999 * 10 ^ 32768) 32768 32773)

abbrev nine : Number
nine = number (999999 * 10 ^ 32763) 32763 32768

bare_nine : IsBare nine
bare_nine = record {
  number = record { low = lit≤ tt; ones = lit≤ tt; high = lit≤ tt; whole = refl; below = lit≤ tt };
  low = lowest_at (999999 * 10 ^ 32763) 32763 (lit≤ tt) refl (λ e. omega (arith, e));
  high = highest_ones (999999 * 10 ^ 32763) (lit≤ tt);
}

nines_form : parts (unsigned nine) (pos 5) ≡ form_of Scientific nines
nines_form =
    known_form Scientific nines (unsigned nine) (pos 5) (record { low = lit≤ tt; ones = lit≤ tt; high = lit≤ tt; whole = refl; below = lit≤ tt }) refl bare_nine refl
    (inr (record { multiple = refl; least = lit≤ tt; below = lit≤ tt }))

-- that becomes 10, of which zeros may be shown, and is carried to 1
abbrev one : Number
one = number (10 ^ 32768) 32768 32768

bare_one : IsBare one
bare_one = record {
  number = record { low = lit≤ tt; ones = lit≤ tt; high = lit≤ tt; whole = refl; below = lit≤ tt };
  low = lowest_ones (10 ^ 32768) refl;
  high = highest_ones (10 ^ 32768) (lit≤ tt);
}

abbrev ten : ℕ → SignedValue Number
ten low = unsigned (number (10 * 10 ^ 32768) low 32769)

reach_of_ten : reach Scientific (10 * 10 ^ 32768) ≡ 1
reach_of_ten =
    ap rise (sym (known_exponent Scientific (ten 32768) (unsigned one) (pos 1) (record { low = lit≤ tt; ones = lit≤ tt; high = lit≤ tt; whole = refl; below = lit≤ tt }) refl bare_one refl
    (inr (record { multiple = refl; least = lit≤ tt; below = lit≤ tt }))))

ten_carries : does_carry Scientific (10 * 10 ^ 32768) ≡ true
ten_carries = carries Scientific (10 * 10 ^ 32768) (subst (λ k. 0 < k) (sym reach_of_ten) (lit≤ tt)) (ap (λ k. 10 * 10 ^ 32768 % 10 ^ k) reach_of_ten)

ten_is_carried : (low : ℕ) → parts (unsigned one) (pos 6) ≡ carried Scientific (parts (ten low) (pos 5))
unfolding bare ending holding
ten_is_carried low =
    sym (ap (λ k. raised k (parts (ten low) (pos 5))) reach_of_ten) ∙ sym (carried_some Scientific (parts (ten low) (pos 5)) ten_carries)

tops_of_nine : IsTop nine.count 32768
tops_of_nine = record { reaches = lit≤ tt; below = lit≤ tt }

next_of_nine : IsTop (count_at 32768 (unsigned nine)) 32769
unfolding count_limit
next_of_nine = record { reaches = lit≤ tt; below = lit≤ tt }

high_of_nine : high_at 32768 (unsigned nine) ≡ 32769
unfolding count_limit
high_of_nine = high_rises 32768 (significant_place 3 32768) (count_at 32768 (unsigned nine)) refl (lit≤ tt) refl refl

tops_of_one : IsTop one.count 32768
tops_of_one = record { reaches = lit≤ tt; below = lit≤ tt }

next_of_one : IsTop (count_at 32768 (unsigned one)) 32768
unfolding count_limit
next_of_one = record { reaches = lit≤ tt; below = lit≤ tt }

high_of_one : high_at 32768 (unsigned one) ≡ 32768
unfolding count_limit
high_of_one = high_stays 32768 (significant_place 3 32768) (count_at 32768 (unsigned one)) refl refl

becomes_ten : ten 32768 ≡ changed (digits 1) None (unsigned nine)
unfolding count_limit
becomes_ten = sym (changed_so 0 32768 32769 32769 (unsigned nine) tops_of_nine next_of_nine high_of_nine)

becomes_ten_so : ten 32767 ≡ changed (digits 3) None (unsigned nine)
unfolding count_limit
becomes_ten_so = sym (changed_so 2 32768 32769 32769 (unsigned nine) tops_of_nine next_of_nine high_of_nine)

stays_one : unsigned one ≡ changed (digits 1) None (unsigned one)
unfolding count_limit
stays_one = sym (changed_so 0 32768 32768 32768 (unsigned one) tops_of_one next_of_one high_of_one)

becomes_one_so : unsigned (number (10 ^ 32768) 32766 32768) ≡ changed (digits 3) None (unsigned one)
unfolding count_limit
becomes_one_so = sym (changed_so 2 32768 32768 32768 (unsigned one) tops_of_one next_of_one high_of_one)

abbrev pub digits_english : ℕ → ScientificFormat
digits_english least = format_in english Scientific (digits least)

carried_shown : form_shown (digits_english 1) nines ≡ parts (unsigned one) (pos 6)
carried_shown = goes_on (digits_english 1) nines (unsigned nine) (ten 32768) (pos 5) nines_form becomes_ten (unsigned one) (unsigned one) (pos 6) ten_carries (ten_is_carried 32768) stays_one

carried_so : form_shown (digits_english 3) nines ≡ parts (unsigned (number (10 ^ 32768) 32766 32768)) (pos 6)
carried_so =
    goes_on (digits_english 3) nines (unsigned nine) (ten 32767) (pos 5) nines_form becomes_ten_so (unsigned one) (unsigned (number (10 ^ 32768) 32766 32768)) (pos 6)
    ten_carries (ten_is_carried 32767) becomes_one_so

carried_text : format_text (scientific_tables (digits_english 1)) nines ≡ codes "1E6"
unfolding holding lib.Utf8.encode
carried_text = ap (λ f. text_of_shown (form_with_power (digits_english 1) f)) carried_shown

carried_text_so : format_text (scientific_tables (digits_english 3)) nines ≡ codes "1.00E6"
unfolding holding lib.Utf8.encode
carried_text_so = ap (λ f. text_of_shown (form_with_power (digits_english 3) f)) carried_so

-- ---- what plural rules see: an exponent from 0 to 255

module _ (d : SignedValue Number) (e : ℤ) (is : IsNumber d.absolute) (sign : d.sign ≡ NoSign) (divided : 10 ^ 32768 * 10 ^ rise e ≡ d.absolute.count * 10 ^ fall e) where
  normal_one : IsNormal Scientific (10 ^ 32768) e
  normal_one = inr (record { multiple = mod-one (rise e + fall e); least = lit≤ tt; below = lit≤ tt })

  one_shown : parts (unsigned one) e ≡ form_shown plain_english d
  one_shown =
      sym (stays plain_english d (unsigned one) (unsigned one) e (known_form Scientific d (unsigned one) e is (sym sign) bare_one divided normal_one) refl
      (reach_none Scientific one bare_one (inr (record { multiple = refl; least = lit≤ tt; below = lit≤ tt }))))

  seen_so : d.absolute.count % 10 ^ rise e ≡ 0 → Some (value_operands (seen_of_form (parts (unsigned one) e))) ≡ shown_operands (scientific_tables plain_english) d
  seen_so whole =
      form_seen plain_english d (parts (unsigned one) e) (value_operands (seen_of_form (parts (unsigned one) e))) one_shown refl
      (ap (λ x. d.absolute.count % 10 ^ rise x) (sym (known_exponent Scientific d (unsigned one) e is (sym sign) bare_one divided normal_one)) ∙ whole)

-- of 1000000, which is `1E6`, of 0.01, which is `1E-2`, and of 10^300
million_seen : shown_operands (scientific_tables plain_english) (unsigned (number (10 ^ 32774) 32768 32774)) ≡ Some (seen 1000000 0 0 0 0 6)
million_seen = sym (seen_so (unsigned (number (10 ^ 32774) 32768 32774)) (pos 6) (record { low = lit≤ tt; ones = lit≤ tt; high = lit≤ tt; whole = refl; below = lit≤ tt }) refl refl refl)

hundredth_seen : shown_operands (scientific_tables plain_english) (unsigned (number (10 ^ 32766) 32766 32768)) ≡ Some (seen 1 0 0 0 0 0)
hundredth_seen = sym (seen_so (unsigned (number (10 ^ 32766) 32766 32768)) (negsuc 1) (record { low = lit≤ tt; ones = lit≤ tt; high = lit≤ tt; whole = refl; below = lit≤ tt }) refl refl refl)

vast_seen : shown_operands (scientific_tables plain_english) (unsigned (number (10 ^ 33068) 32768 33068)) ≡ Some (seen 0 0 0 0 0 255)
vast_seen = sym (seen_so (unsigned (number (10 ^ 33068) 32768 33068)) (pos 300) (record { low = lit≤ tt; ones = lit≤ tt; high = lit≤ tt; whole = refl; below = lit≤ tt }) refl refl refl)
