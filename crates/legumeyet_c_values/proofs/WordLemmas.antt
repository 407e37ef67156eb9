-- One word more that is 0 is no other word, and a known one; words that are all 0 are those of no words.
use Rattle.std.proofs.Common.{arith, ◌≡◌, ℕ, zero, suc, ◌≤◌, ℤ, pos, negsuc, Bool, true, false, ◌&&◌, if◌then◌else◌, List, [], ◌∷◌, ◌++◌, Option, Some, None, refl, ap}
use Rattle.std.specs.Prelude.{◌==◌, int_lt, nat_lt}
use Rattle.std.specs.List.{list_all}
use Rattle.std.proofs.lemmas.Bool.{and_parts, eqb-true, false≢true, ltb-true}
use Rattle.fixed_decimal.specs.declared.RoundingIncrement.{RoundingIncrement}
use Rattle.fixed_decimal.specs.declared.RoundingIncrement.TheVariants.{MultiplesOf1, MultiplesOf2, MultiplesOf5, MultiplesOf25}
use Rattle.locale_numbers_formats.specs.declared.Rounding.{Rounding}
use Rattle.locale_numbers_formats.specs.declared.RoundingPriority.{RoundingPriority}
use Rattle.locale_numbers_formats.specs.declared.SignAsked.{SignAsked}
use Rattle.locale_numbers_formats.specs.declared.TrailingZeros.{TrailingZeros}
use Rattle.locale_numbers_requests.specs.Increments.{multiples_at, with_zeros}
use Rattle.locale_numbers_requests.specs.declared.Increment.{Increment}
use Rattle.legumeyet_c_values.specs.WordLaws.{NewerIncrementsWereNone, OlderIncrementsStay, OlderOptionsStay, OlderShapesStay, SevenOptionsStay, SixShapesStay, old_increment_of, old_position_rounding_with, old_rounding_with}
use Rattle.legumeyet_c_values.specs.Words.{count_of, digits_least, fraction_of, fraction_with, increment_of, is_at, is_known, is_zero, multiples_with, named, number_options_of, options_with, position_of, position_rounding_with, priorities, rounding_of, rounding_with, roundings, shows_end, significant_of, signs, trimmings, usual, word_at}

word_stays : (words : List ℤ) (place : ℕ) → word_at (words ++ pos 0 ∷ []) place ≡ word_at words place
word_stays [] zero = refl
word_stays [] (suc place) = refl
word_stays (word ∷ words) zero = refl
word_stays (word ∷ words) (suc place) = word_stays words place

known_stays : (count : ℕ) (words : List ℤ) → is_known count (words ++ pos 0 ∷ []) ≡ is_known count words
known_stays zero [] = refl
known_stays zero (word ∷ words) = ap (λ (b : Bool). is_zero word && b) (known_stays zero words)
known_stays (suc zero) [] = refl
known_stays (suc (suc count)) [] = refl
known_stays (suc count) (word ∷ words) = known_stays count words

pub options_stay : OlderOptionsStay
options_stay = λ words. simp (word_stays, known_stays)

pub shapes_stay : OlderShapesStay
shapes_stay = λ words text. simp (word_stays, known_stays)

-- ---- words that are all 0

zero_is : (word : ℤ) → is_zero word ≡ true → word ≡ pos 0
zero_is (pos number) is = ap (λ (n : ℕ). pos n) (eqb-true number 0 is)
zero_is (negsuc number) is = absurd (false≢true is)

zero_at : (words : List ℤ) (place : ℕ) → list_all is_zero words ≡ true → word_at words place ≡ pos 0
zero_at [] place zeros = refl
zero_at (word ∷ words) zero zeros = zero_is word (and_parts (is_zero word) (list_all is_zero words) zeros).0
zero_at (word ∷ words) (suc place) zeros = zero_at words place (and_parts (is_zero word) (list_all is_zero words) zeros).1

zero_known : (count : ℕ) (words : List ℤ) → list_all is_zero words ≡ true → is_known count words ≡ true
zero_known zero words zeros = zeros
zero_known (suc count) [] zeros = refl
zero_known (suc count) (word ∷ words) zeros = zero_known count words (and_parts (is_zero word) (list_all is_zero words) zeros).1

pub zeros_ask : (words : List ℤ) → list_all is_zero words ≡ true → number_options_of words ≡ Some usual
zeros_ask words zeros =
    rw (zero_known 10 words zeros, zero_at words 0 zeros, zero_at words 1 zeros, zero_at words 2 zeros, zero_at words 3 zeros, zero_at words 4 zeros, zero_at words 5 zeros, zero_at words 6 zeros, zero_at words 7 zeros, zero_at words 8 zeros, zero_at words 9 zeros)
    refl

-- ---- seven words

-- the words past so many are 0
known_at : (count place : ℕ) (words : List ℤ) → count ≤ place → is_known count words ≡ true → word_at words place ≡ pos 0
known_at zero place words above known = zero_at words place known
known_at (suc count) zero words above known = absurd (omega arith)
known_at (suc count) (suc place) [] above known = refl
known_at (suc count) (suc place) (word ∷ words) above known = known_at count place words (omega arith) known

known_later : (count more : ℕ) (words : List ℤ) → count ≤ more → is_known count words ≡ true → is_known more words ≡ true
known_later zero more words above known = zero_known more words known
known_later (suc count) zero words above known = absurd (omega arith)
known_later (suc count) (suc more) [] above known = refl
known_later (suc count) (suc more) (word ∷ words) above known = known_later count more words (omega arith) known

-- where no digits are said, the rounding is the one at the position
asked_stays : (asked : Option Rounding) (increment : Increment) → rounding_with asked (Some increment) (Some 0) (Some 0) (Some None) ≡ asked
asked_stays None increment = refl
asked_stays (Some asked) increment = refl

unsaid_stays : (position : Option ℤ) (increment : Option Increment) (word : ℤ)
    → rounding_with (position_rounding_with (multiples_with position increment) word) increment (Some 0) (Some 0) (Some None)
    ≡ position_rounding_with (multiples_with position increment) word
unsaid_stays None increment word = refl
unsaid_stays (Some position) None word = refl
unsaid_stays (Some position) (Some increment) word = asked_stays (position_rounding_with (multiples_at position increment) word) increment

pub seven_stay : SevenOptionsStay
seven_stay = λ words known.
    rw (
      known_later 7 10 words (omega arith) known,
      known_at 7 7 words (omega arith) known,
      known_at 7 8 words (omega arith) known,
      known_at 7 9 words (omega arith) known,
      unsaid_stays (position_of (word_at words 2)) (increment_of (word_at words 3)) (word_at words 1),
    )
    refl

pub six_stay : SixShapesStay
six_stay = λ words text known. rw (known_later 6 7 words (omega arith) known, known_at 6 6 words (omega arith) known) refl

-- ---- increments

-- a word of one of the older increments is that one, with no zeros behind
listed_increment : (b : Bool) (here : RoundingIncrement) (before : Option RoundingIncrement) (now : Option Increment)
    → ((digits : RoundingIncrement) → before ≡ Some digits → now ≡ Some (with_zeros digits 0))
    → (digits : RoundingIncrement) → (if b then Some here else before) ≡ Some digits → (if b then Some (with_zeros here 0) else now) ≡ Some (with_zeros digits 0)
listed_increment true here before now rest digits is = let one : here ≡ digits = cc in ap (λ d. Some (with_zeros d 0)) one
listed_increment false here before now rest digits is = rest digits is

increment_is : (word : ℤ) (digits : RoundingIncrement) → old_increment_of word ≡ Some digits → increment_of word ≡ Some (with_zeros digits 0)
increment_is (pos number) =
    listed_increment (number == 0) MultiplesOf1 _ _
    (listed_increment (number == 1) MultiplesOf1 _ _
    (listed_increment (number == 2) MultiplesOf2 _ _
    (listed_increment (number == 5) MultiplesOf5 _ _
    (listed_increment (number == 25) MultiplesOf25 _ _ (λ digits is. absurd (cc))))))
increment_is (negsuc number) = λ digits is. absurd (cc)

-- no count is below none
never_below : (n : ℕ) → int_lt (pos n) (pos 0) ≡ false
never_below n = by (int_lt (pos n) (pos 0)) refl
  where
    by : (b : Bool) → int_lt (pos n) (pos 0) ≡ b → int_lt (pos n) (pos 0) ≡ false
    by true is = let below = ltb-true n 0 is in absurd (omega (arith, below))
    by false is = is

-- digits of a fraction, as long as none go down to a position
least_stays : (asked : Rounding) (zeros : TrailingZeros) (position : ℤ) (digits : RoundingIncrement) (n : ℕ)
    → digits_least asked zeros (record { position = position; increment = digits; fraction_digits = pos 0 }) (pos n) ≡ pos n
least_stays asked zeros position digits n = by (int_lt (pos n) (pos 0)) (never_below n)
  where
    by : (b : Bool) → b ≡ false → (if b && (is_at asked && shows_end zeros) then pos 0 else pos n) ≡ pos n
    by true is = absurd (cc)
    by false is = refl

-- which shows no digits of a fraction
fraction_stays : (asked : Rounding) (zeros : TrailingZeros) (position : ℤ) (digits : RoundingIncrement) (word : ℤ)
    → fraction_with (Some asked) (Some zeros) (multiples_with (Some position) (Some (with_zeros digits 0))) (count_of word) ≡ count_of word
fraction_stays asked zeros position digits (negsuc number) = refl
fraction_stays asked zeros position digits (pos number) = by (nat_lt number 32768)
  where
    by : (b : Bool) → fraction_with (Some asked) (Some zeros) (multiples_with (Some position) (Some (with_zeros digits 0))) (if b then Some (pos number) else None)
        ≡ (if b then Some (pos number) else None)
    by true = ap (λ (fraction : ℤ). Some fraction) (least_stays asked zeros position digits number)
    by false = refl

-- without zeros nothing is asked for
without_zeros : (sign : Option SignAsked) (rounding : Option Rounding) (whole fraction other : Option ℤ)
    → options_with sign rounding None whole fraction ≡ options_with sign rounding None whole other
without_zeros None rounding whole fraction other = refl
without_zeros (Some sign) None whole fraction other = refl
without_zeros (Some sign) (Some rounding) whole fraction other = refl

-- nor without a rounding
without_rounding : (sign : Option SignAsked) (zeros : Option TrailingZeros) (whole fraction other : Option ℤ)
    → options_with sign None zeros whole fraction ≡ options_with sign None zeros whole other
without_rounding None zeros whole fraction other = refl
without_rounding (Some sign) zeros whole fraction other = refl

module _ (sign : Option SignAsked) (digits : RoundingIncrement) (word fraction : ℤ) (least most : Option ℕ) (priority : Option (Option RoundingPriority)) (whole : Option ℤ) where
  -- the rounding of the increment
  abbrev made : Option Rounding → Option Rounding
  made asked = rounding_with asked (Some (with_zeros digits 0)) least most priority

  by_rounding : (position : ℤ) (asked : Option Rounding) (zeros : Option TrailingZeros)
      → options_with sign (made asked) zeros whole (fraction_with asked zeros (multiples_with (Some position) (Some (with_zeros digits 0))) (count_of fraction))
      ≡ options_with sign (made asked) zeros whole (count_of fraction)
  by_rounding position None zeros = without_rounding sign zeros whole _ _
  by_rounding position (Some asked) None = without_zeros sign (made (Some asked)) whole _ _
  by_rounding position (Some asked) (Some zeros) =
      ap (λ f. options_with sign (made (Some asked)) (Some zeros) whole f) (fraction_stays asked zeros position digits fraction)

  by_position : (position : Option ℤ) (zeros : Option TrailingZeros)
      → options_with sign (made (position_rounding_with (multiples_with position (Some (with_zeros digits 0))) word)) zeros whole
      (fraction_with (position_rounding_with (multiples_with position (Some (with_zeros digits 0))) word) zeros (multiples_with position (Some (with_zeros digits 0))) (count_of fraction))
      ≡ options_with sign (made (old_position_rounding_with position (Some digits) word)) zeros whole (count_of fraction)
  by_position None zeros = without_rounding sign zeros whole _ _
  by_position (Some position) zeros = by_rounding position (named (roundings position digits) word) zeros

pub increments_stay : OlderIncrementsStay
increments_stay = λ words digits is. by words digits is (is_known 10 words)
  where
    by : (words : List ℤ) (digits : RoundingIncrement) → old_increment_of (word_at words 3) ≡ Some digits → (b : Bool)
        → (if b then options_with (named signs (word_at words 0)) (rounding_of words) (named trimmings (word_at words 4)) (count_of (word_at words 5)) (fraction_of words) else None)
        ≡ (if b
        then options_with (named signs (word_at words 0)) (old_rounding_with (old_increment_of (word_at words 3)) words) (named trimmings (word_at words 4))
        (count_of (word_at words 5)) (count_of (word_at words 6))
        else None)
    by words digits is true =
        rw (is, increment_is (word_at words 3) digits is)
        (by_position (named signs (word_at words 0)) digits (word_at words 1) (word_at words 6) (significant_of (word_at words 7)) (significant_of (word_at words 8))
        (named priorities (word_at words 9)) (count_of (word_at words 5)) (position_of (word_at words 2)) (named trimmings (word_at words 4)))
    by words digits is false = refl

-- without an increment nothing was rounded, and nothing asked for
none_rounded : (position : Option ℤ) (word : ℤ) → old_position_rounding_with position None word ≡ None
none_rounded None word = refl
none_rounded (Some position) word = refl

pub newer_were_none : NewerIncrementsWereNone
newer_were_none = λ words is. by words is (is_known 10 words) (named signs (word_at words 0))
  where
    by : (words : List ℤ) → old_increment_of (word_at words 3) ≡ None → (b : Bool) (sign : Option SignAsked)
        → (if b
        then options_with sign (old_rounding_with (old_increment_of (word_at words 3)) words) (named trimmings (word_at words 4))
        (count_of (word_at words 5)) (count_of (word_at words 6))
        else None) ≡ None
    by words is true None = refl
    by words is true (Some sign) = rw (is, none_rounded (position_of (word_at words 2)) (word_at words 1)) refl
    by words is false sign = refl
