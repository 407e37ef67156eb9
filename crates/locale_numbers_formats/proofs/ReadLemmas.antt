-- What is read of a skeleton can be asked for by words: the code is one, and there are not too many marks.
use Rattle.std.proofs.Common.{◌≡◌, ℕ, ◌+◌, ◌<◌, ◌≤◌, nat_le, nat_lt, Bool, true, false, not, ◌&&◌, ◌||◌, ◌==◌, List, [], ◌∷◌, ◌++◌, length, drop, take, position, Option, Some, None, unwrap_or, Result, Ok, Err, codes, cond, refl, sym, ap, subst, ◌∙◌, arith}
use Rattle.std.specs.List.{list_all}
use Rattle.std.specs.Str.{bytes_eq}
use Rattle.std.specs.Char.{is_ascii_digit, to_ascii_uppercase}
use Rattle.std.specs.Prelude.{slice_index}
use Rattle.std.proofs.lemmas.Bool.{and_parts, eq-eqb, eqb-true, false≢true, le-leb, leb-true, lt-ltb, ltb-false, ltb-true}
use Rattle.fixed_decimal.specs.declared.RoundingIncrement.{RoundingIncrement}
use Rattle.fixed_decimal.specs.declared.SignDisplay.{SignDisplay}
use Rattle.fixed_decimal.specs.declared.SignDisplay.TheVariants as display
use Rattle.icu_decimal_scientific.specs.declared.notation.ScientificNotation.{ScientificNotation}
use Rattle.icu_decimal_scientific.specs.declared.notation.ScientificNotation.TheVariants as exponents
use Rattle.icu_decimal_scientific.specs.declared.shown.ExponentOptions.{ExponentOptions}
use Rattle.icu_decimal_scientific.specs.declared.shown.ExponentSign.{ExponentSign}
use Rattle.icu_decimal_scientific.specs.declared.shown.ExponentSign.TheVariants.{Auto, Always}
use Rattle.icu_dimension_fractions.specs.CurrencyCodes.{is_currency_code}
use Rattle.icu_dimension_fractions.specs.declared.CurrencyStyle.{CurrencyStyle}
use Rattle.icu_dimension_fractions.specs.declared.CurrencyStyle.TheVariants as style
use Rattle.locale_numbers_formats.specs.Cutting.{cut_at, is_separator}
use Rattle.locale_numbers_formats.specs.ExponentWords.{digits_by, exponent_digits, exponent_options, exponent_setting, exponent_sign, exponent_signed, least_shown, named_sign, option_by, option_digits, or_refused, read_options, refused_digits, sign_option, slash, with_option, with_sign}
use Rattle.locale_numbers_formats.specs.IncrementWords.{from_first, increment_at, increment_setting, number_setting, other_step, point, pointed_at, step_of, step_setting}
use Rattle.locale_numbers_formats.specs.Marks.{digits_end, digits_setting, either_end, either_setting, fraction_end, fraction_setting, marked, old_end, option_setting, padded_setting, whole_or, zeros_or}
use Rattle.locale_numbers_formats.specs.Runs.{leading, marks_alone}
use Rattle.locale_numbers_formats.specs.SkeletonLaws.{HasCode, HasExponents, HasMarks, IsSkeleton}
use Rattle.locale_numbers_formats.specs.Skeletons.{at_place, checked, checked_by, no_words, once, pair_fault, read_word, read_words, set, settled, skeleton_of, space, then_read}
use Rattle.locale_numbers_formats.specs.StemTable.{fronts, stems, usual_exponents}
use Rattle.locale_numbers_formats.specs.Stems.{capital_code, coded, optioned, or_marked, or_slashed, or_unknown, setting_named, slashed_at}
use Rattle.locale_numbers_formats.specs.WordTable.{value_beside}
use Rattle.locale_numbers_formats.specs.declared.options.RoundingPriority.{RoundingPriority}
use Rattle.locale_numbers_formats.specs.declared.options.RoundingPriority.TheVariants.{MorePrecision, LessPrecision}
use Rattle.locale_numbers_formats.specs.declared.skeleton.SettingKind.{SettingKind}
use Rattle.locale_numbers_formats.specs.declared.skeleton.Skeleton.{Skeleton}
use Rattle.locale_numbers_formats.specs.declared.skeleton.Words.{Words}
use Rattle.locale_numbers_formats.specs.declared.skeleton_error.SkeletonError.{SkeletonError}
use Rattle.locale_numbers_formats.specs.declared.skeleton_error.WordFault.{WordFault}
use Rattle.locale_numbers_formats.specs.declared.skeleton_error.WordFault.TheVariants as fault
use Rattle.locale_numbers_formats.specs.declared.stems.Precision.{Precision}
use Rattle.locale_numbers_formats.specs.declared.stems.Precision.TheVariants as precision
use Rattle.locale_numbers_formats.specs.declared.stems.Setting.{Setting}
use Rattle.locale_numbers_formats.specs.declared.stems.Setting.TheVariants.{OfNotation, OfUnit, OfPrecision, OfMode, OfGrouping, OfWhole, OfWidth, OfSign, OfPoint, Refused}
use Rattle.locale_numbers_formats.specs.declared.stems.SkeletonNotation.{SkeletonNotation}
use Rattle.locale_numbers_formats.specs.declared.stems.SkeletonNotation.TheVariants as notation
use Rattle.locale_numbers_formats.specs.declared.stems.SkeletonSign.{SkeletonSign}
use Rattle.locale_numbers_formats.specs.declared.stems.SkeletonUnit.{SkeletonUnit}
use Rattle.locale_numbers_formats.specs.declared.stems.SkeletonUnit.TheVariants as unit
use Rattle.locale_numbers_formats.specs.declared.stems.WholeZeros.{WholeZeros}
use Rattle.locale_numbers_formats.specs.declared.stems.WholeZeros.TheVariants.{Shown, Hidden}

-- ---- whether a word can ask for a thing

abbrev is_exponent : ExponentOptions → Bool
is_exponent o = not (o.least_digits == 1) && nat_le o.least_digits 100

abbrev is_notation : SkeletonNotation → Bool
is_notation notation.Standard = true
is_notation (notation.Compact pattern) = true
is_notation (notation.Scientific style) = is_exponent style.exponents

abbrev is_unit : SkeletonUnit → Bool
is_unit unit.None = true
is_unit (unit.Percent sign) = true
is_unit (unit.Currency code) = is_currency_code code

abbrev is_precision : Precision → Bool
is_precision precision.Usual = true
is_precision precision.Unlimited = true
is_precision (precision.Fraction least more) = nat_le (least + more) 100
is_precision (precision.AtLeast least) = nat_lt 0 least && nat_le least 100
is_precision (precision.Whole least more) = nat_le (least + more) 100
is_precision (precision.Significant least more zeros) = nat_lt 0 least && nat_le (least + more) 100
is_precision (precision.SignificantAtLeast least zeros) = nat_lt 0 least && nat_le least 100
is_precision (precision.Either least more digits others priority zeros) = nat_le (least + more) 100 && (nat_lt 0 (digits + others) && nat_le (digits + others) 100)
is_precision (precision.Increment step zeros digits whole) = nat_le zeros 100 && nat_le digits 100
is_precision (precision.Currency usage) = true
is_precision (precision.WholeCurrency usage) = true

abbrev is_sign_by : CurrencyStyle → SignDisplay → Bool
is_sign_by style.Standard x = true
is_sign_by style.Accounting display.Auto = true
is_sign_by style.Accounting display.Never = false
is_sign_by style.Accounting display.Always = true
is_sign_by style.Accounting display.ExceptZero = true
is_sign_by style.Accounting display.Negative = true

abbrev is_setting : Setting → Bool
is_setting (OfNotation x) = is_notation x
is_setting (OfUnit x) = is_unit x
is_setting (OfPrecision x) = is_precision x
is_setting (OfMode x) = true
is_setting (OfGrouping x) = true
is_setting (OfWhole x) = nat_le x 100
is_setting (OfWidth x) = true
is_setting (OfSign x) = is_sign_by x.style x.display
is_setting OfPoint = true
is_setting (Refused x) = true

-- ---- each word asks for such a thing

some_is : {A : Type 0} (x y : A) → Some x ≡ Some y → x ≡ y
some_is x y same = cc

beside_is : (table : List (List ℕ × Setting)) (word : List ℕ) (v : Setting) → list_all (λ (e : List ℕ × Setting). is_setting e.1) table ≡ true → value_beside table word ≡ Some v → is_setting v ≡ true
beside_is [] word v all some = absurd (cc)
beside_is (entry ∷ entries) word v all some = at (bytes_eq word entry.0) (beside_is entries word v p.1) some
  where
    p : (is_setting entry.1 ≡ true) × (list_all (λ (e : List ℕ × Setting). is_setting e.1) entries ≡ true)
    p = and_parts (is_setting entry.1) (list_all (λ (e : List ℕ × Setting). is_setting e.1) entries) all

    at : (b : Bool) → (value_beside entries word ≡ Some v → is_setting v ≡ true) → cond b (Some entry.1) (value_beside entries word) ≡ Some v → is_setting v ≡ true
    at true next same = subst (λ (x : Setting). is_setting x ≡ true) (some_is entry.1 v same) p.0
    at false next same = next same

or_unknown_is : (o : Option Setting) → ((v : Setting) → o ≡ Some v → is_setting v ≡ true) → is_setting (or_unknown o) ≡ true
or_unknown_is None is = refl
or_unknown_is (Some v) is = is v refl

capital_is : (code : List ℕ) → is_setting (capital_code code) ≡ true
capital_is code = at (is_currency_code code) refl
  where
    at : (b : Bool) → is_currency_code code ≡ b → is_setting (cond b (OfUnit (unit.Currency code)) (Refused fault.Code)) ≡ true
    at true is = is
    at false is = refl

coded_is : (code : List ℕ) → is_setting (coded code) ≡ true
coded_is code = at (length code == 3)
  where
    capitals : List ℕ
    capitals = to_ascii_uppercase (slice_index code 0) ∷ to_ascii_uppercase (slice_index code 1) ∷ to_ascii_uppercase (slice_index code 2) ∷ []

    at : (b : Bool) → is_setting (cond b (capital_code capitals) (Refused fault.Code)) ≡ true
    at true = capital_is capitals
    at false = refl

-- marks alone are not more than a word may have
alone_few : (mark : ℕ) (text : List ℕ) (n : ℕ) → marks_alone mark text ≡ Some n → n ≤ 100
alone_few mark [] n some = absurd (cc)
alone_few mark (c ∷ cs) n some = at (nat_lt 100 (length (c ∷ cs))) refl (nat_lt (leading mark (c ∷ cs)) (length (c ∷ cs))) some
  where
    at : (b : Bool) → nat_lt 100 (length (c ∷ cs)) ≡ b → (d : Bool) → cond b None (cond d None (Some (length (c ∷ cs)))) ≡ Some n → n ≤ 100
    at true is d same = absurd (cc)
    at false is true same = absurd (cc)
    at false is false same = subst (λ k. k ≤ 100) (some_is (length (c ∷ cs)) n same) (ltb-false 100 (length (c ∷ cs)) is)

whole_is : (f : WordFault) (o : Option ℕ) → ((n : ℕ) → o ≡ Some n → n ≤ 100) → is_setting (whole_or f o) ≡ true
whole_is f None few = refl
whole_is f (Some n) few = le-leb n 100 (few n refl)

zeros_is : (f : WordFault) (text : List ℕ) → is_setting (zeros_or f text) ≡ true
zeros_is f text = whole_is f (marks_alone 48 text) (alone_few 48 text)

padded_is : (option : List ℕ) → is_setting (padded_setting option) ≡ true
padded_is [] = refl
padded_is (c ∷ zeros) = at ((c == 42) || (c == 43))
  where
    at : (b : Bool) → is_setting (cond b (zeros_or fault.Unsupported zeros) (Refused fault.Unsupported)) ≡ true
    at true = zeros_is fault.Unsupported zeros
    at false = refl

both : (a b : Bool) → a ≡ true → b ≡ true → (a && b) ≡ true
both true b one other = other
both false b one other = one

some_of : (least most : ℕ) → 0 < least → most ≤ 100 → (nat_lt 0 least && nat_le most 100) ≡ true
some_of least most some few = both (nat_lt 0 least) (nat_le most 100) (lt-ltb 0 least some) (le-leb most 100 few)

digits_end_is : (least more : ℕ) (end : List ℕ) → 0 < least → least + more ≤ 100 → is_setting (digits_end least more end) ≡ true
digits_end_is least more end some few =
    at (bytes_eq end []) (bytes_eq end (codes "/w")) ((more == 0) && (bytes_eq end (codes "*") || bytes_eq end (codes "+"))) ((more == 0) && (bytes_eq end (codes "*/w") || bytes_eq end (codes "+/w")))
  where
    at : (a b d e : Bool)
        → is_setting (cond a (OfPrecision (precision.Significant least more Shown)) (cond b (OfPrecision (precision.Significant least more Hidden)) (cond d (OfPrecision (precision.SignificantAtLeast least Shown))
        (cond e (OfPrecision (precision.SignificantAtLeast least Hidden)) (Refused fault.Unknown))))) ≡ true
    at true b d e = some_of least (least + more) some few
    at false true d e = some_of least (least + more) some few
    at false false true e = some_of least least some (omega (arith, few))
    at false false false true = some_of least least some (omega (arith, few))
    at false false false false = refl

digits_setting_is : (marks : List ℕ) → is_setting (digits_setting marks) ≡ true
digits_setting_is marks = at (nat_lt 100 (signs + leading 35 rest)) refl
  where
    signs : ℕ
    signs = 1 + leading 64 marks

    rest : List ℕ
    rest = drop (leading 64 marks) marks

    at : (b : Bool) → nat_lt 100 (signs + leading 35 rest) ≡ b → is_setting (cond b (Refused fault.Unknown) (digits_end signs (leading 35 rest) (drop (leading 35 rest) rest))) ≡ true
    at true is = refl
    at false is = digits_end_is signs (leading 35 rest) (drop (leading 35 rest) rest) (omega arith) (ltb-false 100 (signs + leading 35 rest) is)

module _ (least more digits others : ℕ) (few : least + more ≤ 100) (some : 0 < digits + others) (most : digits + others ≤ 100) where
  either_has : (one rest : ℕ) (p : RoundingPriority) (z : WholeZeros) → one + rest ≡ digits + others → is_setting (OfPrecision (precision.Either least more one rest p z)) ≡ true
  either_has one rest p z same =
      both (nat_le (least + more) 100) (nat_lt 0 (one + rest) && nat_le (one + rest) 100) (le-leb (least + more) 100 few) (some_of (one + rest) (one + rest) (omega (arith, some, same)) (omega (arith, most, same)))

  -- at least so many digits, with no other ones
  endless_has : (b : Bool) (z : WholeZeros) → (b && (others == 0)) ≡ true → is_setting (OfPrecision (precision.Either least more 0 digits MorePrecision z)) ≡ true
  endless_has b z is = either_has 0 digits MorePrecision z (let none = eqb-true others 0 (and_parts b (others == 0) is).1 in omega (arith, none))

  strict_has : (z : WholeZeros) → is_setting (OfPrecision (precision.Either least more 0 (digits + others) LessPrecision z)) ≡ true
  strict_has z = either_has 0 (digits + others) LessPrecision z (omega arith)

  old_end_is : (end : List ℕ) → is_setting (old_end least more digits others end) ≡ true
  old_end_is end = at ((endless || plus) && (others == 0)) refl ((whole || whole_plus) && (others == 0)) refl (bytes_eq end [] && (digits == 1)) (bytes_eq end (codes "/w") && (digits == 1))
    where
      endless : Bool
      endless = bytes_eq end (codes "*")

      plus : Bool
      plus = bytes_eq end (codes "+")

      whole : Bool
      whole = bytes_eq end (codes "*/w")

      whole_plus : Bool
      whole_plus = bytes_eq end (codes "+/w")

      relaxed : WholeZeros → Setting
      relaxed z = OfPrecision (precision.Either least more 0 digits MorePrecision z)

      strict : WholeZeros → Setting
      strict z = OfPrecision (precision.Either least more 0 (digits + others) LessPrecision z)

      at : (a : Bool) → ((endless || plus) && (others == 0)) ≡ a → (b : Bool) → ((whole || whole_plus) && (others == 0)) ≡ b → (d e : Bool)
          → is_setting (cond a (relaxed Shown) (cond b (relaxed Hidden) (cond d (strict Shown) (cond e (strict Hidden) (Refused fault.Unknown))))) ≡ true
      at true is b _ d e = endless_has (endless || plus) Shown is
      at false _ true is d e = endless_has (whole || whole_plus) Hidden is
      at false _ false _ true e = strict_has Shown
      at false _ false _ false true = strict_has Hidden
      at false _ false _ false false = refl

  either_end_is : (end : List ℕ) → is_setting (either_end least more digits others end) ≡ true
  either_end_is end = at (bytes_eq end (codes "r")) (bytes_eq end (codes "r/w")) (bytes_eq end (codes "s")) (bytes_eq end (codes "s/w"))
    where
      at : (a b d e : Bool)
          → is_setting (cond a (OfPrecision (precision.Either least more digits others MorePrecision Shown)) (cond b (OfPrecision (precision.Either least more digits others MorePrecision Hidden))
          (cond d (OfPrecision (precision.Either least more digits others LessPrecision Shown)) (cond e (OfPrecision (precision.Either least more digits others LessPrecision Hidden)) (old_end least more digits others end))))) ≡ true
      at true b d e = either_has digits others MorePrecision Shown refl
      at false true d e = either_has digits others MorePrecision Hidden refl
      at false false true e = either_has digits others LessPrecision Shown refl
      at false false false true = either_has digits others LessPrecision Hidden refl
      at false false false false = old_end_is end

either_setting_is : (least more : ℕ) (marks : List ℕ) → least + more ≤ 100 → is_setting (either_setting least more marks) ≡ true
either_setting_is least more marks few = at (nat_lt 100 (signs + leading 35 rest)) refl
  where
    signs : ℕ
    signs = 1 + leading 64 marks

    rest : List ℕ
    rest = drop (leading 64 marks) marks

    at : (b : Bool) → nat_lt 100 (signs + leading 35 rest) ≡ b → is_setting (cond b (Refused fault.Unknown) (either_end least more signs (leading 35 rest) (drop (leading 35 rest) rest))) ≡ true
    at true is = refl
    at false is = either_end_is least more signs (leading 35 rest) few (omega arith) (ltb-false 100 (signs + leading 35 rest) is) (drop (leading 35 rest) rest)

option_is : (least more : ℕ) (option : List ℕ) → least + more ≤ 100 → is_setting (option_setting least more option) ≡ true
option_is least more [] few = refl
option_is least more (c ∷ cs) few = at (c == 64) (bytes_eq (c ∷ cs) (codes "w"))
  where
    at : (a b : Bool) → is_setting (cond a (either_setting least more cs) (cond b (OfPrecision (precision.Whole least more)) (Refused fault.Unknown))) ≡ true
    at true b = either_setting_is least more cs few
    at false true = le-leb (least + more) 100 few
    at false false = refl

other_is : (text : List ℕ) → is_setting (other_step text) ≡ true
other_is [] = refl
other_is (c ∷ cs) = at (list_all is_ascii_digit (c ∷ cs))
  where
    at : (b : Bool) → is_setting (cond b (Refused fault.Unsupported) (Refused fault.Unknown)) ≡ true
    at true = refl
    at false = refl

step_is : (o : Option (RoundingIncrement × ℕ)) (whole : WholeZeros) (digits : ℕ) (others : List ℕ) → is_setting (step_setting o whole digits others) ≡ true
step_is None whole digits others = other_is others
step_is (Some found) whole digits others = at (nat_lt 100 found.1) refl (nat_lt 100 digits) refl
  where
    at : (a : Bool) → nat_lt 100 found.1 ≡ a → (b : Bool) → nat_lt 100 digits ≡ b
        → is_setting (cond (a || b) (Refused fault.Unsupported) (OfPrecision (precision.Increment found.0 found.1 digits whole))) ≡ true
    at true _ b _ = refl
    at false _ true _ = refl
    at false few false short = both (nat_le found.1 100) (nat_le digits 100) (le-leb found.1 100 (ltb-false 100 found.1 few)) (le-leb digits 100 (ltb-false 100 digits short))

number_is : (whole : WholeZeros) (o : Option ℕ) (number : List ℕ) → is_setting (pointed_at o whole number) ≡ true
number_is whole None number = step_is (step_of (from_first (number ++ []))) whole 0 (from_first (number ++ []))
number_is whole (Some end) number =
    let digits = from_first (take end number ++ drop (end + 1) number) in
    step_is (step_of digits) whole (length (drop (end + 1) number)) digits

increment_at_is : (o : Option ℕ) (option : List ℕ) → is_setting (increment_at o option) ≡ true
increment_at_is None option = number_is Shown (position (is_separator point) option) option
increment_at_is (Some end) option = at (bytes_eq (drop (end + 1) option) (codes "w"))
  where
    at : (b : Bool) → is_setting (cond b (number_setting Hidden (take end option)) (Refused fault.Unknown)) ≡ true
    at true = number_is Hidden (position (is_separator point) (take end option)) (take end option)
    at false = refl

increment_is : (option : List ℕ) → is_setting (increment_setting option) ≡ true
increment_is option = increment_at_is (position (is_separator 47) option) option

-- ---- exponents

least_is : (n : ℕ) → n ≤ 100 → (not (least_shown n == 1) && nat_le (least_shown n) 100) ≡ true
least_is n few = at (n == 1) refl
  where
    at : (b : Bool) → (n == 1) ≡ b → (not (cond b 0 n == 1) && nat_le (cond b 0 n) 100) ≡ true
    at true is = refl
    at false is = both (not (n == 1)) (nat_le n 100) (ap not is) (le-leb n 100 few)

digits_by_is : (x : ScientificNotation) (sign : ExponentSign) (o : Option ℕ) → ((n : ℕ) → o ≡ Some n → n ≤ 100) → is_setting (digits_by x sign o) ≡ true
digits_by_is x sign None few = refl
digits_by_is x sign (Some n) few = least_is n (few n refl)

exponent_digits_is : (x : ScientificNotation) (sign : ExponentSign) (text : List ℕ) → is_setting (exponent_digits x sign text) ≡ true
exponent_digits_is x sign text = digits_by_is x sign (marks_alone 48 text) (alone_few 48 text)

refused_is : (o : Option ℕ) → is_setting (refused_digits o) ≡ true
refused_is None = refl
refused_is (Some n) = refl

exponent_sign_is : (x : ScientificNotation) (text : List ℕ) → is_setting (exponent_sign x text) ≡ true
exponent_sign_is x [] = refl
exponent_sign_is x (c ∷ cs) = at (c == 33) (c == 63)
  where
    at : (b d : Bool) → is_setting (cond b (exponent_digits x Always cs) (cond d (refused_digits (marks_alone 48 cs)) (Refused fault.Unknown))) ≡ true
    at true d = exponent_digits_is x Always cs
    at false true = refused_is (marks_alone 48 cs)
    at false false = refl

exponent_signed_is : (x : ScientificNotation) (text : List ℕ) → is_setting (exponent_signed x text) ≡ true
exponent_signed_is x [] = refl
exponent_signed_is x (c ∷ cs) = at (c == 43)
  where
    at : (b : Bool) → is_setting (cond b (exponent_sign x cs) (exponent_digits x Auto (c ∷ cs))) ≡ true
    at true = exponent_sign_is x cs
    at false = exponent_digits_is x Auto (c ∷ cs)

exponent_setting_is : (marks : List ℕ) → is_setting (exponent_setting marks) ≡ true
exponent_setting_is [] = refl
exponent_setting_is (c ∷ cs) = at (c == 69)
  where
    at : (b : Bool) → is_setting (cond b (exponent_signed exponents.Engineering cs) (exponent_signed exponents.Scientific (c ∷ cs))) ≡ true
    at true = exponent_signed_is exponents.Engineering cs
    at false = exponent_signed_is exponents.Scientific (c ∷ cs)

option_few : (option : List ℕ) (n : ℕ) → option_digits option ≡ Some n → n ≤ 100
option_few [] n some = absurd (cc)
option_few (c ∷ cs) n some = at ((c == 42) || (c == 43)) some
  where
    at : (b : Bool) → cond b (marks_alone 101 cs) None ≡ Some n → n ≤ 100
    at true same = alone_few 101 cs n same
    at false same = absurd (cc)

ok_options : (o v : ExponentOptions) → ◌≡◌ {A = Result ExponentOptions WordFault} (Ok o) (Ok v) → o ≡ v
ok_options o v same = cc

-- another sign leaves the digits
signed_is : (o : ExponentOptions) (r : Result ExponentSign WordFault) (v : ExponentOptions) → is_exponent o ≡ true → with_sign o r ≡ Ok v → is_exponent v ≡ true
signed_is o (Ok sign) v is same = subst (λ (x : ExponentOptions). is_exponent x ≡ true) (ok_options (record o { sign = sign }) v same) is
signed_is o (Err f) v is same = absurd (cc)

sign_option_is : (o : ExponentOptions) (s : Option Setting) (v : ExponentOptions) → is_exponent o ≡ true → sign_option o s ≡ Ok v → is_exponent v ≡ true
sign_option_is o None v is same = absurd (cc)
sign_option_is o (Some (OfNotation x)) v is same = absurd (cc)
sign_option_is o (Some (OfUnit x)) v is same = absurd (cc)
sign_option_is o (Some (OfPrecision x)) v is same = absurd (cc)
sign_option_is o (Some (OfMode x)) v is same = absurd (cc)
sign_option_is o (Some (OfGrouping x)) v is same = absurd (cc)
sign_option_is o (Some (OfWhole x)) v is same = absurd (cc)
sign_option_is o (Some (OfWidth x)) v is same = absurd (cc)
sign_option_is o (Some (OfSign x)) v is same = signed_is o (named_sign x.style x.display) v is same
sign_option_is o (Some OfPoint) v is same = absurd (cc)
sign_option_is o (Some (Refused f)) v is same = absurd (cc)

option_by_is : (o : ExponentOptions) (digits : Option ℕ) (option : List ℕ) (v : ExponentOptions) → ((n : ℕ) → digits ≡ Some n → n ≤ 100) → is_exponent o ≡ true → option_by o digits option ≡ Ok v → is_exponent v ≡ true
option_by_is o None option v few is same = sign_option_is o (value_beside stems option) v is same
option_by_is o (Some n) option v few is same =
    subst (λ (x : ExponentOptions). is_exponent x ≡ true) (ok_options (record o { least_digits = least_shown n }) v same) (least_is n (few n refl))

options_are : (x : ScientificNotation) (options : List (List ℕ)) (o : ExponentOptions) → is_exponent o ≡ true → is_setting (read_options x options o) ≡ true
options_are x [] o is = is
options_are x (option ∷ rest) o is = at (with_option o option) (λ v same. option_by_is o (option_digits option) option v (option_few option) is same) (λ v. options_are x rest v)
  where
    at : (r : Result ExponentOptions WordFault) → ((v : ExponentOptions) → r ≡ Ok v → is_exponent v ≡ true) → ((v : ExponentOptions) → is_exponent v ≡ true → is_setting (read_options x rest v) ≡ true)
        → is_setting (or_refused (λ v. read_options x rest v) r) ≡ true
    at (Ok v) first next = next v (first v refl)
    at (Err f) first next = refl

exponent_options_is : (x : ScientificNotation) (text : List ℕ) → is_setting (exponent_options x text) ≡ true
exponent_options_is x text = options_are x (cut_at slash text) usual_exponents refl

-- ---- words with a slash

optioned_is : (front option : List ℕ) → is_setting (optioned front option) ≡ true
optioned_is front option =
    at (bytes_eq front (codes "currency")) (bytes_eq front (codes "integer-width")) (bytes_eq front (codes "precision-integer")) (bytes_eq front (codes "precision-increment")) (bytes_eq front (codes "scientific"))
    (bytes_eq front (codes "engineering"))
  where
    at : (b d e f g h : Bool)
        → is_setting (cond b (coded option) (cond d (padded_setting option) (cond e (option_setting 0 0 option) (cond f (increment_setting option)
        (cond g (exponent_options exponents.Scientific option) (cond h (exponent_options exponents.Engineering option) (or_unknown (value_beside fronts front)))))))) ≡ true
    at true d e f g h = coded_is option
    at false true e f g h = padded_is option
    at false false true f g h = option_is 0 0 option (omega arith)
    at false false false true g h = increment_is option
    at false false false false true h = exponent_options_is exponents.Scientific option
    at false false false false false true = exponent_options_is exponents.Engineering option
    at false false false false false false = or_unknown_is (value_beside fronts front) (λ v some. beside_is fronts front v refl some)

slashed_is : (o : Option ℕ) (word : List ℕ) → is_setting (slashed_at o word) ≡ true
slashed_is None word = refl
slashed_is (Some end) word = optioned_is (take end word) (drop (end + 1) word)

end_is : (least more : ℕ) (end : List ℕ) → least + more ≤ 100 → is_setting (fraction_end least more end) ≡ true
end_is least more [] few = le-leb (least + more) 100 few
end_is least more (c ∷ cs) few = at (c == 47) ((more == 0) && (nat_lt 0 least && (bytes_eq (c ∷ cs) (codes "*") || bytes_eq (c ∷ cs) (codes "+")))) refl
  where
    at : (a b : Bool) → ((more == 0) && (nat_lt 0 least && (bytes_eq (c ∷ cs) (codes "*") || bytes_eq (c ∷ cs) (codes "+")))) ≡ b
        → is_setting (cond a (option_setting least more cs) (cond b (OfPrecision (precision.AtLeast least)) (Refused fault.Unknown))) ≡ true
    at true b is = option_is least more cs few
    at false true is =
        let p = and_parts (more == 0) (nat_lt 0 least && (bytes_eq (c ∷ cs) (codes "*") || bytes_eq (c ∷ cs) (codes "+"))) is in
        let q = and_parts (nat_lt 0 least) (bytes_eq (c ∷ cs) (codes "*") || bytes_eq (c ∷ cs) (codes "+")) p.1 in
        both (nat_lt 0 least) (nat_le least 100) q.0 (le-leb least 100 (omega (arith, few)))
    at false false is = refl

fraction_setting_is : (marks : List ℕ) → is_setting (fraction_setting marks) ≡ true
fraction_setting_is marks = at (nat_lt 100 (leading 48 marks + leading 35 rest)) refl
  where
    rest : List ℕ
    rest = drop (leading 48 marks) marks

    at : (b : Bool) → nat_lt 100 (leading 48 marks + leading 35 rest) ≡ b → is_setting (cond b (Refused fault.Unknown) (fraction_end (leading 48 marks) (leading 35 rest) (drop (leading 35 rest) rest))) ≡ true
    at true is = refl
    at false is = end_is (leading 48 marks) (leading 35 rest) (drop (leading 35 rest) rest) (ltb-false 100 (leading 48 marks + leading 35 rest) is)

marked_is : (word : List ℕ) (v : Setting) → marked word ≡ Some v → is_setting v ≡ true
marked_is [] v same = absurd (cc)
marked_is (c ∷ marks) v same = at (c == 46) (c == 48) (c == 64) (c == 69) same
  where
    at : (a b d e : Bool)
        → cond a (Some (fraction_setting marks)) (cond b (Some (zeros_or fault.Unknown (c ∷ marks))) (cond d (Some (digits_setting marks)) (cond e (Some (exponent_setting marks)) None))) ≡ Some v → is_setting v ≡ true
    at true b d e is = subst (λ (x : Setting). is_setting x ≡ true) (some_is (fraction_setting marks) v is) (fraction_setting_is marks)
    at false true d e is = subst (λ (x : Setting). is_setting x ≡ true) (some_is (zeros_or fault.Unknown (c ∷ marks)) v is) (zeros_is fault.Unknown (c ∷ marks))
    at false false true e is = subst (λ (x : Setting). is_setting x ≡ true) (some_is (digits_setting marks) v is) (digits_setting_is marks)
    at false false false true is = subst (λ (x : Setting). is_setting x ≡ true) (some_is (exponent_setting marks) v is) (exponent_setting_is marks)
    at false false false false is = absurd (cc)

setting_is : (word : List ℕ) → is_setting (setting_named word) ≡ true
setting_is word = at (value_beside stems word) (λ v some. beside_is stems word v refl some)
  where
    later : (o : Option Setting) → ((v : Setting) → o ≡ Some v → is_setting v ≡ true) → is_setting (or_slashed o word) ≡ true
    later None is = slashed_is (position (is_separator slash) word) word
    later (Some v) is = is v refl

    at : (o : Option Setting) → ((v : Setting) → o ≡ Some v → is_setting v ≡ true) → is_setting (or_marked o word) ≡ true
    at None is = later (marked word) (marked_is word)
    at (Some v) is = is v refl

-- ---- and so do all words

record AreWords (w : Words) : Type 0 where
  notation : (x : SkeletonNotation) → w.notation ≡ Some x → is_notation x ≡ true
  unit : (x : SkeletonUnit) → w.unit ≡ Some x → is_unit x ≡ true
  precision : (x : Precision) → w.precision ≡ Some x → is_precision x ≡ true
  digits : (x : ℕ) → w.integer_digits ≡ Some x → nat_le x 100 ≡ true
  sign : (x : SkeletonSign) → w.sign ≡ Some x → is_sign_by x.style x.display ≡ true

once_is : {A : Type 0} (o : Option A) (w v : Words) → once o w ≡ Ok v → w ≡ v
once_is None w v same = cc
once_is (Some x) w v same = absurd (cc)

set_is : (w : Words) (x : Setting) (v : Words) → AreWords w → is_setting x ≡ true → set w x ≡ Ok v → AreWords v
set_is w (OfNotation x) v are is same =
    subst AreWords (once_is w.notation (record w { notation = Some x }) v same)
    (record { notation = λ y some. subst (λ (z : SkeletonNotation). is_notation z ≡ true) (some_is x y some) is; unit = are.unit; precision = are.precision; digits = are.digits; sign = are.sign })
set_is w (OfUnit x) v are is same =
    subst AreWords (once_is w.unit (record w { unit = Some x }) v same)
    (record { notation = are.notation; unit = λ y some. subst (λ (z : SkeletonUnit). is_unit z ≡ true) (some_is x y some) is; precision = are.precision; digits = are.digits; sign = are.sign })
set_is w (OfPrecision x) v are is same =
    subst AreWords (once_is w.precision (record w { precision = Some x }) v same)
    (record { notation = are.notation; unit = are.unit; precision = λ y some. subst (λ (z : Precision). is_precision z ≡ true) (some_is x y some) is; digits = are.digits; sign = are.sign })
set_is w (OfMode x) v are is same = subst AreWords (once_is w.mode (record w { mode = Some x }) v same) (record { notation = are.notation; unit = are.unit; precision = are.precision; digits = are.digits; sign = are.sign })
set_is w (OfGrouping x) v are is same = subst AreWords (once_is w.grouping (record w { grouping = Some x }) v same) (record { notation = are.notation; unit = are.unit; precision = are.precision; digits = are.digits; sign = are.sign })
set_is w (OfWhole x) v are is same =
    subst AreWords (once_is w.integer_digits (record w { integer_digits = Some x }) v same)
    (record { notation = are.notation; unit = are.unit; precision = are.precision; digits = λ y some. subst (λ (z : ℕ). nat_le z 100 ≡ true) (some_is x y some) is; sign = are.sign })
set_is w (OfWidth x) v are is same = subst AreWords (once_is w.width (record w { width = Some x }) v same) (record { notation = are.notation; unit = are.unit; precision = are.precision; digits = are.digits; sign = are.sign })
set_is w (OfSign x) v are is same =
    subst AreWords (once_is w.sign (record w { sign = Some x }) v same)
    (record { notation = are.notation; unit = are.unit; precision = are.precision; digits = are.digits; sign = λ y some. subst (λ (z : SkeletonSign). is_sign_by z.style z.display ≡ true) (some_is x y some) is })
set_is w OfPoint v are is same = subst AreWords (once_is w.point (record w { point = Some tt }) v same) (record { notation = are.notation; unit = are.unit; precision = are.precision; digits = are.digits; sign = are.sign })
set_is w (Refused f) v are is same = absurd (cc)

ok_is : (w v : Words) → ◌≡◌ {A = Result Words SkeletonError} (Ok w) (Ok v) → w ≡ v
ok_is w v same = cc

word_is : (place : ℕ) (word : List ℕ) (w v : Words) → AreWords w → read_word place word w ≡ Ok v → AreWords v
word_is place [] w v are same = subst AreWords (ok_is w v same) are
word_is place (c ∷ cs) w v are same = at (set w (setting_named (c ∷ cs))) (λ u is. set_is w (setting_named (c ∷ cs)) u are (setting_is (c ∷ cs)) is) same
  where
    at : (r : Result Words WordFault) → ((u : Words) → r ≡ Ok u → AreWords u) → at_place place r ≡ Ok v → AreWords v
    at (Ok u) is same = subst AreWords (ok_is u v same) (is u refl)
    at (Err f) is same = absurd (cc)

words_are : (words : List (List ℕ)) (place : ℕ) (w v : Words) → AreWords w → read_words place words w ≡ Ok v → AreWords v
words_are [] place w v are same = subst AreWords (ok_is w v same) are
words_are (word ∷ words) place w v are same =
    at (read_word place word w) (λ u is. word_is place word w u are is) (λ u. words_are words (place + (length word + 1)) u v) same
  where
    at : (r : Result Words SkeletonError) → ((u : Words) → r ≡ Ok u → AreWords u) → ((u : Words) → AreWords u → read_words (place + (length word + 1)) words u ≡ Ok v → AreWords v)
        → then_read (λ (x : Words). read_words (place + (length word + 1)) words x) r ≡ Ok v → AreWords v
    at (Ok u) is next same = next u (is u refl) same
    at (Err e) is next same = absurd (cc)

none_are : AreWords no_words
none_are = record { notation = λ x some. absurd (cc); unit = λ x some. absurd (cc); precision = λ x some. absurd (cc); digits = λ x some. absurd (cc); sign = λ x some. absurd (cc) }

-- ---- what they ask for

notation_has : (o : Option SkeletonNotation) → ((x : SkeletonNotation) → o ≡ Some x → is_notation x ≡ true) → HasExponents (unwrap_or o notation.Standard)
notation_has None is = tt
notation_has (Some notation.Standard) is = tt
notation_has (Some (notation.Compact pattern)) is = tt
notation_has (Some (notation.Scientific style)) is =
    let p = and_parts (not (style.exponents.least_digits == 1)) (nat_le style.exponents.least_digits 100) (is (notation.Scientific style) refl) in
    (λ one. false≢true (ap not (sym (eq-eqb style.exponents.least_digits 1 one)) ∙ p.0), leb-true style.exponents.least_digits 100 p.1)

unit_has : (o : Option SkeletonUnit) → ((x : SkeletonUnit) → o ≡ Some x → is_unit x ≡ true) → HasCode (unwrap_or o unit.None)
unit_has None is = tt
unit_has (Some unit.None) is = tt
unit_has (Some (unit.Percent sign)) is = tt
unit_has (Some (unit.Currency code)) is = is (unit.Currency code) refl

some_from : (least most : ℕ) → (nat_lt 0 least && nat_le most 100) ≡ true → (0 < least) × (most ≤ 100)
some_from least most is = let p = and_parts (nat_lt 0 least) (nat_le most 100) is in (ltb-true 0 least p.0, leb-true most 100 p.1)

precision_has : (o : Option Precision) → ((x : Precision) → o ≡ Some x → is_precision x ≡ true) → HasMarks (unwrap_or o precision.Usual)
precision_has None is = tt
precision_has (Some precision.Usual) is = tt
precision_has (Some precision.Unlimited) is = tt
precision_has (Some (precision.Fraction least more)) is = leb-true (least + more) 100 (is (precision.Fraction least more) refl)
precision_has (Some (precision.AtLeast least)) is = some_from least least (is (precision.AtLeast least) refl)
precision_has (Some (precision.Whole least more)) is = leb-true (least + more) 100 (is (precision.Whole least more) refl)
precision_has (Some (precision.Significant least more z)) is = some_from least (least + more) (is (precision.Significant least more z) refl)
precision_has (Some (precision.SignificantAtLeast least z)) is = some_from least least (is (precision.SignificantAtLeast least z) refl)
precision_has (Some (precision.Either least more digits others p z)) is =
    let q = and_parts (nat_le (least + more) 100) (nat_lt 0 (digits + others) && nat_le (digits + others) 100) (is (precision.Either least more digits others p z) refl) in
    (leb-true (least + more) 100 q.0, some_from (digits + others) (digits + others) q.1)
precision_has (Some (precision.Increment step zeros digits whole)) is =
    let p = and_parts (nat_le zeros 100) (nat_le digits 100) (is (precision.Increment step zeros digits whole) refl) in
    (leb-true zeros 100 p.0, leb-true digits 100 p.1)
precision_has (Some (precision.Currency usage)) is = tt
precision_has (Some (precision.WholeCurrency usage)) is = tt

digits_has : (o : Option ℕ) → ((x : ℕ) → o ≡ Some x → nat_le x 100 ≡ true) → unwrap_or o 0 ≤ 100
digits_has None is = omega arith
digits_has (Some x) is = leb-true x 100 (is x refl)

abbrev usual_sign : SkeletonSign
usual_sign = record { display = display.Auto; style = style.Standard }

sign_by_has : (s : CurrencyStyle) (x : SignDisplay) → is_sign_by s x ≡ true → x ≡ display.Never → s ≡ style.Standard
sign_by_has style.Standard x is never = refl
sign_by_has style.Accounting display.Auto is never = absurd (cc)
sign_by_has style.Accounting display.Never is never = absurd (false≢true is)
sign_by_has style.Accounting display.Always is never = absurd (cc)
sign_by_has style.Accounting display.ExceptZero is never = absurd (cc)
sign_by_has style.Accounting display.Negative is never = absurd (cc)

sign_has : (o : Option SkeletonSign) → ((x : SkeletonSign) → o ≡ Some x → is_sign_by x.style x.display ≡ true) → (unwrap_or o usual_sign).display ≡ display.Never → (unwrap_or o usual_sign).style ≡ style.Standard
sign_has None is never = refl
sign_has (Some x) is never = sign_by_has x.style x.display (is x refl) never

settled_is : (w : Words) → AreWords w → pair_fault (settled w) ≡ None → IsSkeleton (settled w)
settled_is w are pairs = record {
  exponents = notation_has w.notation are.notation;
  code = unit_has w.unit are.unit;
  marks = precision_has w.precision are.precision;
  whole = digits_has w.integer_digits are.digits;
  sign = sign_has w.sign are.sign;
  pairs = pairs;
}

pub skeleton_is : (text : List ℕ) (s : Skeleton) → skeleton_of text ≡ Ok s → IsSkeleton s
skeleton_is text s = at (read_words 0 (cut_at space text) no_words) (λ w is. words_are (cut_at space text) 0 no_words w none_are is)
  where
    pairs_are : (w : Words) → AreWords w → (o : Option (SettingKind × WordFault)) → pair_fault (settled w) ≡ o → checked_by o (cut_at space text) (settled w) ≡ Ok s → IsSkeleton s
    pairs_are w are None none same = let is : settled w ≡ s = cc in subst IsSkeleton is (settled_is w are none)
    pairs_are w are (Some f) some same = absurd (cc)

    at : (r : Result Words SkeletonError) → ((w : Words) → r ≡ Ok w → AreWords w) → checked (cut_at space text) r ≡ Ok s → IsSkeleton s
    at (Ok w) is same = pairs_are w (is w refl) (pair_fault (settled w)) refl same
    at (Err e) is same = absurd (cc)
