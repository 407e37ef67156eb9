-- Each rounding of the field and of a skeleton is at a magnitude, and the options of a skeleton fit decimals: `specs/Laws.antt`.
use Rattle.std.proofs.Common.{◌≡◌, ◌+◌, ◌≤◌, ◌<◌, ◌&&◌, ℕ, zero, suc, Bool, true, false, List, [], ◌∷◌, Option, Some, None, Ok, refl, subst, arith, if◌then◌else◌, ◌-◌}
use Rattle.std.proofs.lemmas.Bool.{leb-true}
use Rattle.std.specs.Prelude.{◌==◌, ◌+ℤ◌, ◌-ℤ◌, codes, int_le, ℤ, neg_ℤ, pos, negsuc, nat_le}
use Rattle.std.specs.Str.{bytes_eq}
use Rattle.fixed_decimal.specs.Number.{place}
use Rattle.fixed_decimal.specs.NumberText.{minus, spelled}
use Rattle.fixed_decimal.specs.declared.SignedRoundingMode.{SignedRoundingMode}
use Rattle.icu_dimension_fractions.specs.declared.CurrencyUsage.{CurrencyUsage}
use Rattle.icu_dimension_fractions.specs.declared.CurrencyUsage.TheVariants as usage
use Rattle.locale_numbers_formats.proofs.ReadLemmas.{skeleton_is}
use Rattle.locale_numbers_formats.specs.Changed.{unchanged}
use Rattle.locale_numbers_formats.specs.Cutting.{cut_at}
use Rattle.locale_numbers_formats.specs.SkeletonFormats as skeletons
use Rattle.locale_numbers_formats.specs.SkeletonFormats.{by_usage, compact_rounding, format_of, has_own_digits, notation_by, options_of, own_rounding, to_digits}
use Rattle.locale_numbers_formats.specs.SkeletonLaws.{HasMarks}
use Rattle.locale_numbers_formats.specs.Skeletons.{is_compact, is_currency, says_precision, skeleton_of}
use Rattle.locale_numbers_formats.specs.declared.LeadingZeros.{LeadingZeros}
use Rattle.locale_numbers_formats.specs.declared.Notation.TheVariants.{Compact, CompactDigits}
use Rattle.locale_numbers_formats.specs.declared.Precision.{Precision}
use Rattle.locale_numbers_formats.specs.declared.Precision.TheVariants as precision
use Rattle.locale_numbers_formats.specs.declared.Rounding.{Rounding}
use Rattle.locale_numbers_formats.specs.declared.Rounding.TheVariants as rounding
use Rattle.locale_numbers_formats.specs.declared.Rounding.TheVariants.{Usual, AsGiven, At, Significant, Either}
use Rattle.locale_numbers_formats.specs.declared.RoundingPriority.{RoundingPriority}
use Rattle.locale_numbers_formats.specs.declared.RoundingPriority.TheVariants.{MorePrecision}
use Rattle.locale_numbers_formats.specs.declared.Skeleton.{Skeleton}
use Rattle.locale_numbers_formats.specs.declared.SkeletonNotation.{SkeletonNotation}
use Rattle.locale_numbers_formats.specs.declared.SkeletonNotation.TheVariants as asked
use Rattle.locale_numbers_formats.specs.declared.SignificantDigits.{SignificantDigits}
use Rattle.locale_numbers_formats.specs.declared.TrailingZeros.{TrailingZeros}
use Rattle.locale_numbers_formats.specs.declared.TrailingZeros.TheVariants.{Keep, Trim, TrimWhole, TrimAll}
use Rattle.locale_numbers_requests.specs.FormField.{rounding_read}
use Rattle.locale_numbers_requests.specs.Increments.{digits_down, has_no_zeros, increment_named, multiples_at, raised}
use Rattle.locale_numbers_requests.specs.Laws.{FitDecimals, FitFormat, FitNotation, IsAtMagnitude}
use Rattle.locale_numbers_requests.specs.RoundingField.{above_zero, all_of, all_shown, below_zero, comma, count_named, counts_by, counts_in, digits_by, digits_in, either_by, front_by, is_size, is_whole, last_named, least_shown, letter_f, mode_named, places_named, position_by, position_named, priority_named, rounding_named, significant_at, significant_named, size_named, whole_by}
use Rattle.locale_numbers_requests.specs.declared.increments.Increment.{Increment}
use Rattle.locale_numbers_requests.specs.declared.increments.Multiples.{Multiples}
use Rattle.locale_numbers_requests.specs.declared.rounding_field.DigitsAsked.{DigitsAsked}
use Rattle.locale_numbers_requests.specs.declared.rounding_field.Places.{Places}
use Rattle.locale_numbers_requests.specs.declared.rounding_field.Places.TheVariants.{Position, Fraction}

abbrev IsPlaced : ℤ → Type 0
IsPlaced position = place position < 65536

-- ---- sizes

size_below : (a : Bool) (n most m : ℕ) → (if a && nat_le n most then Some n else None) ≡ Some m → m ≤ most
size_below true n most m is = by (nat_le n most) refl is
  where
    by : (b : Bool) → nat_le n most ≡ b → (if b then Some n else None) ≡ Some m → m ≤ most
    by true test same = let one : n ≡ m = cc in subst (λ x. x ≤ most) one (leb-true n most test)
    by false test same = absurd (cc)
size_below false n most m is = absurd (cc)

placed_above : (o : Option ℕ) (p : ℤ) → ((m : ℕ) → o ≡ Some m → m ≤ 32767) → above_zero o ≡ Some p → IsPlaced p
placed_above None p most is = absurd (cc)
placed_above (Some m) p most is = let one : pos m ≡ p = cc in subst IsPlaced one (let below = most m refl in omega (arith, below))

placed_below : (o : Option ℕ) (p : ℤ) → below_zero o ≡ Some p → IsPlaced p
placed_below None p is = absurd (cc)
placed_below (Some zero) p is = let one : pos 0 ≡ p = cc in subst IsPlaced one (omega arith)
placed_below (Some (suc m)) p is = let one : negsuc m ≡ p = cc in subst IsPlaced one (omega arith)

-- ---- positions

placed_by : (a b : Bool) (below above : Option ℕ) (p : ℤ) → ((m : ℕ) → above ≡ Some m → m ≤ 32767)
    → (if a then Some (pos 0) else if b then below_zero below else above_zero above) ≡ Some p → IsPlaced p
placed_by true b below above p most is = let one : pos 0 ≡ p = cc in subst IsPlaced one (omega arith)
placed_by false true below above p most is = placed_below below p is
placed_by false false below above p most is = placed_above above p most is

position_placed : (word : List ℕ) (p : ℤ) → position_named word ≡ Some p → IsPlaced p
position_placed [] p is = absurd (cc)
position_placed (c ∷ cs) p is =
    placed_by (bytes_eq (c ∷ cs) (codes "0")) (c == minus) (size_named 32768 cs) (size_named 32767 (c ∷ cs)) p
    (λ m same. size_below (is_size (c ∷ cs)) (spelled (c ∷ cs)) 32767 m same) is

-- ---- roundings of the field

abbrev pub ArePlaced : Option DigitsAsked → Type 0
ArePlaced None = Unit {0}
ArePlaced (Some digits) = IsAtMagnitude digits.rounding

-- and so are the places that a word names
abbrev AreNamed : Option Places → Type 0
AreNamed None = Unit {0}
AreNamed (Some (Position position)) = IsPlaced position
AreNamed (Some (Fraction least last)) = IsPlaced last

last_placed : (word : List ℕ) (p : ℤ) → last_named word ≡ Some p → IsPlaced p
last_placed word p is = by (bytes_eq word (codes "0")) is
  where
    by : (b : Bool) → (if b then Some (pos 0) else below_zero (size_named 32767 word)) ≡ Some p → IsPlaced p
    by true same = let one : pos 0 ≡ p = cc in subst IsPlaced one (omega arith)
    by false same = placed_below (size_named 32767 word) p same

counted : (least last : Option ℤ) → ((p : ℤ) → last ≡ Some p → IsPlaced p) → AreNamed (counts_by least last)
counted None last placed = tt
counted (Some least) None placed = tt
counted (Some least) (Some last) placed = by (int_le least (neg_ℤ last))
  where
    by : (b : Bool) → AreNamed (if b then Some (Fraction least last) else None)
    by true = placed last refl
    by false = tt

counts_placed : (words : List (List ℕ)) → AreNamed (counts_in words)
counts_placed [] = tt
counts_placed (a ∷ []) = tt
counts_placed (a ∷ b ∷ []) = counted (count_named a) (last_named b) (last_placed b)
counts_placed (a ∷ b ∷ c ∷ more) = tt

positioned : (p : Option ℤ) → ((z : ℤ) → p ≡ Some z → IsPlaced z) → AreNamed (position_by p)
positioned None placed = tt
positioned (Some p) placed = placed p refl

places_placed : (word : List ℕ) → AreNamed (places_named word)
places_placed [] = tt
places_placed (c ∷ cs) = by (c == letter_f)
  where
    by : (b : Bool) → AreNamed (if b then counts_in (cut_at minus cs) else position_by (position_named (c ∷ cs)))
    by true = counts_placed (cut_at minus cs)
    by false = positioned (position_named (c ∷ cs)) (position_placed (c ∷ cs))

-- the position of multiples is a magnitude, where that of their increment is
abbrev AreMultiples : Option Multiples → Type 0
AreMultiples None = Unit {0}
AreMultiples (Some multiples) = IsPlaced multiples.position

below_most : (p : ℤ) → int_le p (pos 32767) ≡ true → IsPlaced p
below_most (pos n) is = let below = leb-true n 32767 is in omega (arith, below)
below_most (negsuc n) is = omega arith

raised_placed : (low : Bool) (p higher : ℤ) (increment : Increment)
    → AreMultiples (if low && int_le higher (pos 32767) then Some (record { position = higher; increment = increment.digits; fraction_digits = digits_down p }) else None)
raised_placed false p higher increment = tt
raised_placed true p higher increment = by (int_le higher (pos 32767)) refl
  where
    by : (b : Bool) → int_le higher (pos 32767) ≡ b
        → AreMultiples (if b then Some (record { position = higher; increment = increment.digits; fraction_digits = digits_down p }) else None)
    by true is = below_most higher is
    by false is = tt

multiples_placed : (p : ℤ) (increment : Increment) → IsPlaced p → AreMultiples (multiples_at p increment)
multiples_placed p increment placed = by (has_no_zeros increment)
  where
    by : (b : Bool) → AreMultiples (if b then Some (record { position = p; increment = increment.digits; fraction_digits = pos 0 }) else raised p increment)
    by true = placed
    by false = raised_placed (int_le (neg_ℤ (pos 32767)) p) p (p +ℤ pos increment.zeros) increment

all_placed : (front : LeadingZeros) (zeros : TrailingZeros) (m : SignedRoundingMode) (multiples : Option Multiples) → AreMultiples multiples
    → ArePlaced (all_shown front zeros m multiples)
all_placed front zeros m None placed = tt
all_placed front zeros m (Some multiples) placed = placed

least_placed : (front : LeadingZeros) (least : ℤ) (m : SignedRoundingMode) (multiples : Option Multiples) → AreMultiples multiples
    → ArePlaced (least_shown front least m multiples)
least_placed front least m None placed = tt
least_placed front least m (Some multiples) placed = placed

digits_placed : (p : Option Places) (m : Option SignedRoundingMode) (i : Option Increment) → AreNamed p → ArePlaced (digits_by p m i)
digits_placed (Some (Position position)) (Some m) (Some i) placed = all_placed (front_by i) Keep m (multiples_at position i) (multiples_placed position i placed)
digits_placed (Some (Fraction least last)) (Some m) (Some i) placed = least_placed (front_by i) least m (multiples_at last i) (multiples_placed last i placed)
digits_placed (Some places) (Some m) None placed = tt
digits_placed (Some places) None i placed = tt
digits_placed None m i placed = tt

whole_placed : (p : Option Places) (m : Option SignedRoundingMode) (i : Option Increment) → AreNamed p → ArePlaced (whole_by p m i)
whole_placed (Some (Position position)) (Some m) (Some i) placed = tt
whole_placed (Some (Fraction least last)) (Some m) (Some i) placed = by (int_le (neg_ℤ last) least)
  where
    by : (b : Bool) → ArePlaced (if b then all_shown (front_by i) TrimWhole m (multiples_at last i) else None)
    by true = all_placed (front_by i) TrimWhole m (multiples_at last i) (multiples_placed last i placed)
    by false = tt
whole_placed (Some places) (Some m) None placed = tt
whole_placed (Some places) None i placed = tt
whole_placed None m i placed = tt

significant_placed : (zeros : TrailingZeros) (d : Option SignificantDigits) (m : Option SignedRoundingMode) → ArePlaced (significant_at zeros d m)
significant_placed zeros (Some d) (Some m) = tt
significant_placed zeros (Some d) None = tt
significant_placed zeros None m = tt

either_placed : (zeros : TrailingZeros) (p : Option Places) (d : Option SignificantDigits) (r : Option RoundingPriority) (m : Option SignedRoundingMode) → AreNamed p
    → ArePlaced (either_by zeros p d r m)
either_placed zeros (Some (Position position)) (Some d) (Some r) (Some m) placed = tt
either_placed zeros (Some (Fraction least last)) (Some d) (Some r) (Some m) placed = placed
either_placed zeros (Some places) (Some d) (Some r) None placed = tt
either_placed zeros (Some places) (Some d) None m placed = tt
either_placed zeros (Some places) None r m placed = tt
either_placed zeros None d r m placed = tt

-- one of two roundings, by a test
of_test : (b : Bool) (one other : Option DigitsAsked) → ArePlaced one → ArePlaced other → ArePlaced (if b then one else other)
of_test true one other placed rest = placed
of_test false one other placed rest = rest

words_placed : (words : List (List ℕ)) → ArePlaced (digits_in words)
words_placed [] = tt
words_placed (p ∷ []) = tt
words_placed (d ∷ m ∷ []) = significant_placed Trim (significant_named d) (mode_named m)
words_placed (p ∷ m ∷ i ∷ []) =
    of_test (is_whole i) _ _ (significant_placed TrimAll (significant_named p) (mode_named m)) (digits_placed (places_named p) (mode_named m) (increment_named i) (places_placed p))
words_placed (p ∷ m ∷ i ∷ w ∷ []) =
    of_test (is_whole w) _ _ (whole_placed (places_named p) (mode_named m) (increment_named i) (places_placed p))
    (either_placed Trim (places_named p) (significant_named m) (priority_named i) (mode_named w) (places_placed p))
words_placed (p ∷ d ∷ r ∷ m ∷ w ∷ []) =
    of_test (is_whole w) _ _ (either_placed TrimAll (places_named p) (significant_named d) (priority_named r) (mode_named m) (places_placed p)) tt
words_placed (p ∷ d ∷ r ∷ m ∷ w ∷ other ∷ others) = tt

pub rounding_placed : (word : List ℕ) → ArePlaced (rounding_named word)
rounding_placed word = by (bytes_eq word (codes "-")) (bytes_eq word (codes "cash"))
  where
    by : (b c : Bool) → ArePlaced (if b then Some (all_of Usual) else if c then Some (all_of rounding.Cash) else digits_in (cut_at comma word))
    by true c = tt
    by false true = tt
    by false false = words_placed (cut_at comma word)

-- ---- roundings of a skeleton

to_placed : (digits : ℕ) (mode : SignedRoundingMode) → IsAtMagnitude (to_digits digits mode)
to_placed zero mode = omega arith
to_placed (suc digits) mode = omega arith

usage_placed : (u : CurrencyUsage) → IsAtMagnitude (by_usage u)
usage_placed usage.Standard = tt
usage_placed usage.Cash = tt

-- a difference is no higher than what is lessened
difference_placed : (b : Bool) (below above : ℕ) → above ≤ 100 → IsPlaced (if b then negsuc below else pos above)
difference_placed true below above most = omega arith
difference_placed false below above most = omega (arith, most)

increment_placed : (behind digits : ℕ) → behind ≤ 100 → IsPlaced (pos behind -ℤ pos digits)
increment_placed behind zero most = omega (arith, most)
increment_placed behind (suc digits) most = difference_placed _ _ (behind - suc digits) (omega (arith, most))

precision_placed : (amount : Bool) (mode : SignedRoundingMode) (p : Precision) → HasMarks p → IsAtMagnitude (skeletons.rounding_by amount mode p)
precision_placed true mode precision.Usual marks = tt
precision_placed false mode precision.Usual marks = to_placed 6 mode
precision_placed amount mode precision.Unlimited marks = tt
precision_placed amount mode (precision.Fraction least more) marks = to_placed _ mode
precision_placed amount mode (precision.AtLeast least) marks = tt
precision_placed amount mode (precision.Whole least more) marks = to_placed _ mode
precision_placed amount mode (precision.Significant least more zeros) marks = tt
precision_placed amount mode (precision.SignificantAtLeast least zeros) marks = tt
precision_placed amount mode (precision.Either least more digits others priority zeros) marks = to_placed (least + more) mode
precision_placed amount mode (precision.Increment step zeros digits whole) marks = increment_placed zeros digits marks.0
precision_placed amount mode (precision.Currency u) marks = usage_placed u
precision_placed amount mode (precision.WholeCurrency u) marks = usage_placed u

compact_placed : (mode : SignedRoundingMode) (p : Precision) → HasMarks p → IsAtMagnitude (compact_rounding mode p)
compact_placed mode p marks = by (says_precision p)
  where
    by : (b : Bool) → IsAtMagnitude (if b then skeletons.rounding_by false mode p else Either MorePrecision (pos 0) (record { least = 1; most = 2 }) mode)
    by true = precision_placed false mode p marks
    by false = omega arith

-- of what is before a compact pattern, or of a significand
own_placed : (notation : SkeletonNotation) (mode : SignedRoundingMode) (p : Precision) → HasMarks p → IsAtMagnitude (own_rounding notation mode p)
own_placed notation mode p marks = by (is_compact notation)
  where
    by : (b : Bool) → IsAtMagnitude (if b then compact_rounding mode p else skeletons.rounding_by false mode p)
    by true = compact_placed mode p marks
    by false = precision_placed false mode p marks

skeleton_placed : (s : Skeleton) → HasMarks s.precision → IsAtMagnitude (skeletons.rounding_of s)
skeleton_placed s marks = by (has_own_digits s) (is_compact s.notation)
  where
    by : (own compact : Bool)
        → IsAtMagnitude (if own then own_rounding s.notation s.mode s.precision else if compact then AsGiven else skeletons.rounding_by (is_currency s.unit) s.mode s.precision)
    by true compact = own_placed s.notation s.mode s.precision marks
    by false true = tt
    by false false = precision_placed (is_currency s.unit) s.mode s.precision marks

pub read_placed : (asked : Rounding) → IsAtMagnitude (rounding_read asked)
read_placed Usual = tt
read_placed rounding.Cash = tt
read_placed AsGiven = tt
read_placed (At position mode increment) = tt
read_placed (Significant digits mode) = tt
read_placed (Either priority position digits mode) = tt

-- the options of a skeleton are those of the number, or of what is before a compact pattern, or of a significand
options_fit : (s : Skeleton) → FitDecimals (options_of s) → FitDecimals (format_of s).options
options_fit s fits = by (has_own_digits s)
  where
    by : (own : Bool) → FitDecimals (if own then unchanged else options_of s)
    by true = record { position = tt; integer = omega arith }
    by false = fits

notation_fits : (notation : SkeletonNotation) (s : Skeleton) → FitDecimals (options_of s) → FitNotation (notation_by notation s)
notation_fits asked.Standard s fits = tt
notation_fits (asked.Compact width) s fits = by (has_own_digits s)
  where
    by : (own : Bool) → FitNotation (if own then CompactDigits width (options_of s) else Compact width)
    by true = fits
    by false = tt
notation_fits (asked.Scientific style) s fits = fits

pub skeleton_fits : (text : List ℕ) (s : Skeleton) → skeleton_of text ≡ Ok s → FitFormat (format_of s)
skeleton_fits text s is =
    let read = skeleton_is text s is in
    let whole = read.whole in
    let fits : FitDecimals (options_of s) = record { position = skeleton_placed s read.marks; integer = omega (arith, whole) } in
    record { options = options_fit s fits; digits = notation_fits s.notation s fits }
