-- The amount that the function answers is the one that the relation of `icu_dimension_fractions` names: `specs/AmountRounding.antt`.
use Rattle.std.proofs.Common.{◌≡◌, ℕ, ◌+◌, ◌*◌, ◌^◌, ◌<◌, ◌≤◌, inl, inr, refl, sym, ◌∙◌, subst, arith}
use Rattle.std.proofs.Math.Nat.{one-le-pow}
use Rattle.fixed_decimal.specs.Number.{Number}
use Rattle.fixed_decimal.specs.Rounding.{IsLimited, Takes, count_limit}
use Rattle.fixed_decimal.specs.SignedValue.{SignedValue}
use Rattle.fixed_decimal.specs.declared.UnsignedRoundingMode.TheVariants.{HalfEven}
use Rattle.fixed_decimal.proofs.RunOnceLemmas.{rounded_once}
use Rattle.fixed_decimal.proofs.TenLemmas.{tens_apart}
use Rattle.icu_dimension_fractions.specs.FractionRounding.{RoundsAmount, RoundsToFraction}
use Rattle.icu_dimension_fractions.specs.Fractions.{increment_of, last_place, step}
use Rattle.icu_dimension_fractions.specs.declared.Fraction.{Fraction}
use Rattle.icu_dimension_fractions.specs.declared.FractionIncrement.{FractionIncrement}
use Rattle.icu_dimension_fractions.specs.declared.FractionIncrement.TheVariants.{MultiplesOf1, MultiplesOf2, MultiplesOf5, MultiplesOf10, MultiplesOf20, MultiplesOf25, MultiplesOf50}
use Rattle.locale_numbers_formats.specs.AmountRounding.{amount_rounded, amount_size}
use Rattle.locale_numbers_formats.specs.Rounded.{holding_from, multiple_of}
use Rattle.locale_numbers_formats.proofs.RoundedLemmas.{below_power, holding_holds, holding_keeps, holding_lowest, limited_right, multiple_right}

pub increment_positive : (increment : FractionIncrement) (at : ℕ) → 0 < increment_of increment * 10 ^ at
increment_positive MultiplesOf1 at = let p : 1 ≤ 10 ^ at = one-le-pow at 10 (omega arith) in omega (arith, p)
increment_positive MultiplesOf2 at = let p : 1 ≤ 10 ^ at = one-le-pow at 10 (omega arith) in omega (arith, p)
increment_positive MultiplesOf5 at = let p : 1 ≤ 10 ^ at = one-le-pow at 10 (omega arith) in omega (arith, p)
increment_positive MultiplesOf10 at = let p : 1 ≤ 10 ^ at = one-le-pow at 10 (omega arith) in omega (arith, p)
increment_positive MultiplesOf20 at = let p : 1 ≤ 10 ^ at = one-le-pow at 10 (omega arith) in omega (arith, p)
increment_positive MultiplesOf25 at = let p : 1 ≤ 10 ^ at = one-le-pow at 10 (omega arith) in omega (arith, p)
increment_positive MultiplesOf50 at = let p : 1 ≤ 10 ^ at = one-le-pow at 10 (omega arith) in omega (arith, p)

size_taken : (f : Fraction) (old : Number) → Takes HalfEven (step f) old.count (amount_size f old).count
size_taken f old = record {
  multiple = multiple_of HalfEven (step f) old.count;
  rounded = multiple_right HalfEven (step f) old.count (increment_positive f.increment (last_place f));
  is = limited_right (multiple_of HalfEven (step f) old.count) count_limit;
}

size_holds : (old count : ℕ) → count < 10 ^ (holding_from count old count + 1)
size_holds old count =
    holding_holds count old count (let bound = below_power count in let apart = tens_apart count (old + count + 1) (omega arith) in omega (arith, bound, apart))

pub size_right : (f : Fraction) (old : Number) → RoundsToFraction f old (amount_size f old)
size_right f old = record {
  taken = size_taken f old;
  low = refl;
  keeps = holding_keeps (amount_size f old).count old.high (amount_size f old).count;
  holds = size_holds old.high (amount_size f old).count;
  lowest = λ h over below. holding_lowest (amount_size f old).count old.high (amount_size f old).count h over below;
}

pub amount_right : (f : Fraction) (value : SignedValue Number) → RoundsAmount f value (amount_rounded f value)
amount_right f value = record { sign = refl; size = size_right f value.absolute }

-- ---- there is one

limited_once : (m a b : ℕ) → IsLimited m a → IsLimited m b → a ≡ b
limited_once m a b (inl one) (inl other) = one.1 ∙ sym other.1
limited_once m a b (inl one) (inr other) = absurd (omega (arith, one.0, other.0))
limited_once m a b (inr one) (inl other) = absurd (omega (arith, one.0, other.0))
limited_once m a b (inr one) (inr other) = one.1 ∙ sym other.1

taken_once : (unit old a b : ℕ) → Takes HalfEven unit old a → Takes HalfEven unit old b → a ≡ b
taken_once unit old a b one other =
    let same : one.multiple ≡ other.multiple = rounded_once HalfEven unit old one.multiple other.multiple one.rounded other.rounded in
    limited_once other.multiple a b (subst (λ m. IsLimited m a) same one.is) other.is

pub size_once : (f : Fraction) (old a b : Number) → RoundsToFraction f old a → RoundsToFraction f old b → a ≡ b
size_once f old a b one other =
    let count : a.count ≡ b.count = taken_once (step f) old.count a.count b.count one.taken other.taken in
    let low : a.low ≡ b.low = one.low ∙ sym other.low in
    let under : a.high ≤ b.high = one.lowest b.high other.keeps (subst (λ n. n < 10 ^ (b.high + 1)) (sym count) other.holds) in
    let over : b.high ≤ a.high = other.lowest a.high one.keeps (subst (λ n. n < 10 ^ (a.high + 1)) count one.holds) in
    let high : a.high ≡ b.high = omega (arith, under, over) in
    λ i. record { count = count i; low = low i; high = high i }

pub amount_is : (f : Fraction) (old new : SignedValue Number) → RoundsAmount f old new → new ≡ amount_rounded f old
amount_is f old new rounds =
    let sign = rounds.sign in
    let size = size_once f old.absolute new.absolute (amount_size f old.absolute) rounds.size (size_right f old.absolute) in
    λ i. record { sign = sign i; absolute = size i }
