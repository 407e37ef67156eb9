-- A number divided by ten to an exponent, and which numbers have no digit below it: `specs/CompactDigits.antt`.
use Rattle.std.proofs.Common.{◌≡◌, ◌↔◌, ℕ, zero, suc, ◌+◌, ◌-◌, ◌*◌, ◌/◌, ◌%◌, ◌^◌, ◌<◌, ◌≤◌, max, refl, sym, ap, subst, ◌∙◌, arith, inl, inr, ⊎_elim}
use Rattle.std.proofs.Math.Nat.{div-add-mod', eq-zero-or-pos, mod-lt, mul-le-mul_right, one-mul, pow-le-pow_right, zero-mod, zero-mul}
use Rattle.std.proofs.lemmas.Bool.{cases_lt}
use Rattle.fixed_decimal.specs.NonzeroPlaces.{IsLastPlace}
use Rattle.fixed_decimal.specs.Number.{IsNumber, Number, digit}
use Rattle.fixed_decimal.specs.Range.{Rounds}
use Rattle.fixed_decimal.specs.Rounding.{IsLimited, IsTruncated, count_limit}
use Rattle.fixed_decimal.specs.declared.RoundingIncrement.TheVariants.{MultiplesOf1}
use Rattle.fixed_decimal.specs.declared.UnsignedRoundingMode.TheVariants.{Trunc}
use Rattle.fixed_decimal.proofs.RoundingLemmas.{truncated}
use Rattle.fixed_decimal.proofs.TenLemmas.{remainder_more, tens_next, tens_positive}
use Rattle.icu_decimal.specs.CompactText.{lowest_place, padded}
use Rattle.icu_decimal.specs.ShownValue.{top}
use Rattle.icu_decimal.specs.Steps.{IsDivided}
use Rattle.icu_decimal.proofs.ShownLemmas.{highest_is, lowest_is}
use Rattle.icu_decimal_compact_value.proofs.ShowLemmas.{cancel_same, divided_high}
use Rattle.locale_numbers_formats.proofs.ChangedLemmas.{whole_below}

-- ---- cut

cut_is : (n u m : ℕ) → 0 < u → IsTruncated u n m → m ≡ n / u * u
cut_is n u m some is =
    let t : IsTruncated u n (n / u * u) = truncated u (n / u) (n % u) n (sym (div-add-mod' n u)) (mod-lt n some) in
    let up = is.greatest (n / u * u) t.multiple t.under in
    let down = t.greatest m is.multiple is.under in
    omega (arith, up, down)

lt_through : (n a b : ℕ) → n < a → a ≤ b → n < b
lt_through n a b h k = omega arith

below_limit : (n k : ℕ) → n < 10 ^ k → k ≤ 65536 → n < count_limit
unfolding count_limit
below_limit n k h l = lt_through n (10 ^ k) (10 ^ 65536) h (pow-le-pow_right {n = 10} (omega arith) {i = k} {j = 65536} l)

not_limited : (n m new : ℕ) → m ≤ n → n < count_limit → IsLimited m new → new ≡ m
not_limited n m new under below (inl h) = h.1
not_limited n m new under below (inr h) = let over = h.0 in absurd (omega (arith, under, below, over))

module _ (e : ℕ) (old cut : Number) (number : IsNumber old) (cuts : Rounds Trunc MultiplesOf1 e old cut) where
  cut_count : cut.count ≡ old.count / 10 ^ e * 10 ^ e
  cut_count =
      let is : IsTruncated (10 ^ e) old.count cuts.taken.multiple = subst (λ u. IsTruncated u old.count cuts.taken.multiple) (one-mul (10 ^ e)) cuts.taken.rounded in
      not_limited old.count cuts.taken.multiple cut.count is.under (below_limit old.count (old.high + 1) number.below (let high = number.high in omega (arith, high))) cuts.taken.is
      ∙ cut_is old.count (10 ^ e) cuts.taken.multiple (tens_positive e) is

  -- and divided
  pub divided_is : (new : Number) → e ≤ 32768 → IsDivided e cut new → new ≡ padded (old.count / 10 ^ e) e old
  divided_is new small divides =
      let count : new.count ≡ old.count / 10 ^ e = cancel_same new.count (old.count / 10 ^ e) (10 ^ e) (tens_positive e) (divides.count ∙ cut_count) in
      let low : new.low ≡ lowest_place 32768 (old.count / 10 ^ e) = lowest_is 32768 new.count new.low divides.low ∙ ap (lowest_place 32768) count in
      let high : new.high ≡ max (max 32768 (old.high - e)) (top (old.count / 10 ^ e)) =
      divides.high
      ∙ highest_is (max 32768 (old.high - e)) new.count (max 32768 (cut.high - e)) (divided_high old.high e e cut.count new.count cut.high cuts.high divides.count (omega arith))
      ∙ ap (λ c. max (max 32768 (old.high - e)) (top c)) count in
      λ i. record { count = count i; low = low i; high = high i }

-- ---- no digit below a place

part_split : (n p : ℕ) → n % 10 ^ suc p ≡ digit n p * 10 ^ p + n % 10 ^ p
part_split n p = let next : suc p ≡ p + 1 = omega arith in ap (λ k. n % 10 ^ k) next ∙ ap (λ t. n % t) (tens_next p) ∙ remainder_more n (10 ^ p) (tens_positive p)

zeros_below : (n e : ℕ) → ((j : ℕ) → j < e → digit n j ≡ 0) → n % 10 ^ e ≡ 0
zeros_below n zero zeros = omega arith
zeros_below n (suc e) zeros =
    let rest = zeros_below n e (λ j under. zeros j (omega (arith, under))) in
    let none : digit n e * 10 ^ e ≡ 0 = ap (λ d. d * 10 ^ e) (zeros e (omega arith)) ∙ zero-mul (10 ^ e) in
    part_split n e ∙ (omega (arith, rest, none))

digit_below : (n e p : ℕ) → p < e → 0 < digit n p → n % 10 ^ e ≡ 0 → ⊥
digit_below n e p under some whole =
    let split = part_split n p in
    let none = whole_below n (suc p) e whole (omega (arith, under)) in
    let one = mul-le-mul_right {m = 1} {n = digit n p} (10 ^ p) some in
    let power = tens_positive p in
    omega (arith, split, none, one, power)

zero_below : (n p j : ℕ) → IsLastPlace n p → j < p → digit n j ≡ 0
zero_below n p j last under = ⊎_elim (λ none. none) (λ some. let over = last.lowest j some in absurd (omega (arith, under, over))) (eq-zero-or-pos (digit n j))

-- by the place of the last digit that is not zero
pub whole_from : (n e p : ℕ) → e ≤ 32768 → (n ≡ 0 → p ≡ 32768) → (0 < n → IsLastPlace n p) → (e ≤ p) ↔ (n % 10 ^ e ≡ 0)
whole_from zero e p small none some = (λ _. zero-mod (10 ^ e), λ _. let ones = none refl in omega (arith, small, ones))
whole_from (suc n) e p small none some =
    let last : IsLastPlace (suc n) p = some (omega arith) in (
      λ under. zeros_below (suc n) e (λ j below. zero_below (suc n) p j last (omega (arith, under, below))),
      λ whole. ⊎_elim (λ below. absurd (digit_below (suc n) e p below last.nonzero whole)) (λ above. above) (cases_lt p e),
    )
