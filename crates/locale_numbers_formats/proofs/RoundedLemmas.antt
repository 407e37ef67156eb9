-- The number that the function answers is the one that the relations of `fixed_decimal` name: `specs/Rounded.antt`.
use Rattle.std.proofs.Common.{◌≡◌, ◌≢◌, ◌==◌, ℕ, zero, suc, ◌+◌, ◌-◌, ◌*◌, ◌/◌, ◌%◌, ◌^◌, ◌<◌, ◌≤◌, ◌⊎◌, Bool, true, false, cond, nat_lt, ℤ, refl, sym, subst, arith, inl, inr, ⊎_elim, max}
use Rattle.std.proofs.Math.Nat.{mod-lt, div-add-mod', one-le-pow, pow-suc}
use Rattle.std.proofs.lemmas.Bool.{cases_lt}
use Rattle.std.proofs.lemmas.Bool.Decides.{nat_tests}
use Rattle.fixed_decimal.specs.Number.{Number, place}
use Rattle.fixed_decimal.specs.Range.{IsHighest, Rounds}
use Rattle.fixed_decimal.specs.Rounding.{IsMultiple, IsRounded, increment_number, count_limit}
use Rattle.fixed_decimal.specs.SignedRounding.{size_mode, RoundsSigned}
use Rattle.fixed_decimal.specs.SignedValue.{SignedValue}
use Rattle.fixed_decimal.specs.declared.UnsignedRoundingMode.{UnsignedRoundingMode}
use Rattle.fixed_decimal.specs.declared.UnsignedRoundingMode.TheVariants.{Expand, Trunc, HalfExpand, HalfTrunc, HalfEven}
use Rattle.fixed_decimal.specs.declared.RoundingIncrement.{RoundingIncrement}
use Rattle.fixed_decimal.specs.declared.RoundingIncrement.TheVariants.{MultiplesOf1, MultiplesOf2, MultiplesOf5, MultiplesOf25}
use Rattle.fixed_decimal.specs.declared.SignedRoundingMode.{SignedRoundingMode}
use Rattle.fixed_decimal.specs.declared.call.Call.TheVariants.{Round}
use Rattle.fixed_decimal.proofs.RoundingLemmas.{even_count, exact, expanded, lower_nearest, odd_count, truncated, upper_nearest}
use Rattle.fixed_decimal.proofs.RunOnceLemmas.{makes_once}
use Rattle.fixed_decimal.proofs.TenLemmas.{tens_apart}
use Rattle.locale_numbers_formats.specs.Rounded.{takes_upper, multiple_of, limited, holding_from, highest_of, rounded_size, rounded}

-- ---- the multiple of a mode

-- between two multiples the function takes the one that the mode names
picks : (mode : UnsignedRoundingMode) (unit q r n : ℕ) → n ≡ q * unit + r → 0 < r → r < unit
    → (b : Bool) → takes_upper mode unit r q ≡ b → IsRounded mode unit n (cond b (q * unit + unit) (q * unit))
picks Expand unit q r n e p l true h = expanded unit q r n e p l
picks Expand unit q r n e p l false h = absurd (cc)
picks Trunc unit q r n e p l true h = absurd (cc)
picks Trunc unit q r n e p l false h = truncated unit q r n e l
picks HalfExpand unit q r n e p l true h = let half : unit ≤ 2 * r = grind (arith, nat_tests) in upper_nearest unit q r n (λ other. other ≤ q * unit + unit) e l half (λ t. omega arith)
picks HalfExpand unit q r n e p l false h = let half : 2 * r < unit = grind (arith, nat_tests) in lower_nearest unit q r n (λ other. other ≤ q * unit) e p (omega arith) (λ t. absurd (omega arith))
picks HalfTrunc unit q r n e p l true h = let half : unit < 2 * r = grind (arith, nat_tests) in upper_nearest unit q r n (λ other. q * unit + unit ≤ other) e l (omega arith) (λ t. absurd (omega arith))
picks HalfTrunc unit q r n e p l false h = let half : 2 * r ≤ unit = grind (arith, nat_tests) in lower_nearest unit q r n (λ other. q * unit ≤ other) e p half (λ t. omega arith)
picks HalfEven unit q r n e p l b h = tie (2 * r == unit) refl b h
  where
    tie : (t : Bool) → (2 * r == unit) ≡ t → (b : Bool) → cond t (q % 2 == 1) (nat_lt unit (2 * r)) ≡ b → IsRounded HalfEven unit n (cond b (q * unit + unit) (q * unit))
    tie true is true odd =
        let half : 2 * r ≡ unit = grind (arith, nat_tests) in let one : q % 2 ≡ 1 = grind (arith, nat_tests) in
        upper_nearest unit q r n (λ _. IsMultiple (2 * unit) (q * unit + unit)) e l (omega arith) (λ t. odd_count q unit one)
    tie true is false even =
        let half : 2 * r ≡ unit = grind (arith, nat_tests) in let other : q % 2 ≢ 1 = grind (arith, nat_tests) in
        lower_nearest unit q r n (λ _. IsMultiple (2 * unit) (q * unit)) e p (omega arith) (λ t. even_count q unit (omega (arith, other)))
    tie false is true up =
        let half : unit < 2 * r = grind (arith, nat_tests) in
        upper_nearest unit q r n (λ _. IsMultiple (2 * unit) (q * unit + unit)) e l (omega arith) (λ t. absurd (omega arith))
    tie false is false down =
        let off : 2 * r ≢ unit = grind (arith, nat_tests) in let half : 2 * r ≤ unit = grind (arith, nat_tests) in
        lower_nearest unit q r n (λ _. IsMultiple (2 * unit) (q * unit)) e p half (λ t. absurd (off t))

pub multiple_right : (mode : UnsignedRoundingMode) (unit n : ℕ) → 0 < unit → IsRounded mode unit n (multiple_of mode unit n)
multiple_right mode unit n p = at (n % unit == 0) refl
  where
    whole : n ≡ n / unit * unit + n % unit
    whole = sym (div-add-mod' n unit)

    at : (b : Bool) → (n % unit == 0) ≡ b → IsRounded mode unit n (cond b n (cond (takes_upper mode unit (n % unit) (n / unit)) (n / unit * unit + unit) (n / unit * unit)))
    at true is =
        let none : n % unit ≡ 0 = grind (arith, nat_tests) in
        exact mode unit n (n / unit, omega (arith, whole, none))
    at false is =
        let some : n % unit ≢ 0 = grind (arith, nat_tests) in
        picks mode unit (n / unit) (n % unit) n whole (omega (arith, some)) (mod-lt n p) (takes_upper mode unit (n % unit) (n / unit)) refl

pub limited_right : (n limit : ℕ) → ((n < limit) × (cond (nat_lt n limit) n 0 ≡ n)) ⊎ ((limit ≤ n) × (cond (nat_lt n limit) n 0 ≡ 0))
limited_right n limit = at (nat_lt n limit) refl
  where
    at : (b : Bool) → nat_lt n limit ≡ b → ((n < limit) × (cond b n 0 ≡ n)) ⊎ ((limit ≤ n) × (cond b n 0 ≡ 0))
    at true is = inl (grind (arith, nat_tests), refl)
    at false is = inr (grind (arith, nat_tests), refl)

-- ---- the highest place

pub below_power : (n : ℕ) → n < 10 ^ n
below_power zero = omega arith
below_power (suc n) = omega (arith, below_power n, pow-suc 10 n)

pub holding_keeps : (more from count : ℕ) → from ≤ holding_from more from count
holding_keeps zero from count = omega arith
holding_keeps (suc more) from count = at (nat_lt count (10 ^ (from + 1))) (holding_keeps more (suc from) count)
  where
    at : (b : Bool) → suc from ≤ holding_from more (suc from) count → from ≤ cond b from (holding_from more (suc from) count)
    at true next = omega arith
    at false next = omega (arith, next)

pub holding_holds : (more from count : ℕ) → count < 10 ^ (from + more + 1) → count < 10 ^ (holding_from more from count + 1)
holding_holds zero from count h = subst (λ k. count < 10 ^ k) (let e : from + 0 + 1 ≡ from + 1 = omega arith in e) h
holding_holds (suc more) from count h = at (nat_lt count (10 ^ (from + 1))) refl (holding_holds more (suc from) count (subst (λ k. count < 10 ^ k) (let e : from + suc more + 1 ≡ suc from + more + 1 = omega arith in e) h))
  where
    at : (b : Bool) → nat_lt count (10 ^ (from + 1)) ≡ b → count < 10 ^ (holding_from more (suc from) count + 1) → count < 10 ^ (cond b from (holding_from more (suc from) count) + 1)
    at true is next = grind (arith, nat_tests)
    at false is next = next

-- what does not hold at a place and does at one not below it, does so above it
past : (from count h : ℕ) → from ≤ h → count < 10 ^ (h + 1) → 10 ^ (from + 1) ≤ count → suc from ≤ h
past from count h l under over =
    ⊎_elim (λ less. omega (arith, less))
    (λ same. let e : h + 1 ≡ from + 1 = omega (arith, l, same) in let u : count < 10 ^ (from + 1) = subst (λ k. count < 10 ^ k) e under in absurd (omega (arith, u, over)))
    (cases_lt from h)

lower_of : (more from count h : ℕ) (b : Bool) → nat_lt count (10 ^ (from + 1)) ≡ b → from ≤ h → (10 ^ (from + 1) ≤ count → holding_from more (suc from) count ≤ h)
    → cond b from (holding_from more (suc from) count) ≤ h
lower_of more from count h true is l next = l
lower_of more from count h false is l next = next (grind (arith, nat_tests))

pub holding_lowest : (more from count h : ℕ) → from ≤ h → count < 10 ^ (h + 1) → holding_from more from count ≤ h
holding_lowest zero from count h l under = l
holding_lowest (suc more) from count h l under =
    lower_of more from count h (nat_lt count (10 ^ (from + 1))) refl l (λ over. holding_lowest more (suc from) count h (past from count h l under over) under)

highest_right : (old at count : ℕ) → IsHighest old at count (highest_of old at count)
highest_right old at count =
    let keeps = holding_keeps count (max old (at - 1)) count in
    record {
      keeps = omega (arith, keeps);
      position = omega (arith, keeps);
      holds = holding_holds count (max old (at - 1)) count (let bound = below_power count in let apart = tens_apart count (max old (at - 1) + count + 1) (omega arith) in omega (arith, bound, apart));
      lowest = λ h least place under. holding_lowest count (max old (at - 1)) count h (omega (arith, least, place)) under;
    }

-- ---- the number

pub unit_positive : (increment : RoundingIncrement) (at : ℕ) → 0 < increment_number increment * 10 ^ at
unit_positive MultiplesOf1 at = let p : 1 ≤ 10 ^ at = one-le-pow at 10 (omega arith) in omega (arith, p)
unit_positive MultiplesOf2 at = let p : 1 ≤ 10 ^ at = one-le-pow at 10 (omega arith) in omega (arith, p)
unit_positive MultiplesOf5 at = let p : 1 ≤ 10 ^ at = one-le-pow at 10 (omega arith) in omega (arith, p)
unit_positive MultiplesOf25 at = let p : 1 ≤ 10 ^ at = one-le-pow at 10 (omega arith) in omega (arith, p)

pub size_right : (mode : UnsignedRoundingMode) (increment : RoundingIncrement) (at : ℕ) (old : Number) → Rounds mode increment at old (rounded_size mode increment at old)
size_right mode increment at old = record {
  taken = record {
    multiple = multiple_of mode (increment_number increment * 10 ^ at) old.count;
    rounded = multiple_right mode (increment_number increment * 10 ^ at) old.count (unit_positive increment at);
    is = limited_right (multiple_of mode (increment_number increment * 10 ^ at) old.count) count_limit;
  };
  low = refl;
  high = highest_right old.high at (limited (multiple_of mode (increment_number increment * 10 ^ at) old.count));
}

-- the number of the function is what the relation names
pub rounded_right : (mode : SignedRoundingMode) (increment : RoundingIncrement) (at : ℕ) (value : SignedValue Number) → RoundsSigned mode increment at value (rounded mode increment at value)
rounded_right mode increment at value = record { sign = refl; size = size_right (size_mode value.sign mode) increment at value.absolute }

-- and what the relation names is the number of the function
pub rounds_as : (mode : SignedRoundingMode) (increment : RoundingIncrement) (position : ℤ) (old new : SignedValue Number)
    → RoundsSigned mode increment (place position) old new → new ≡ rounded mode increment (place position) old
rounds_as mode increment position old new rounds = makes_once (Round position mode increment) old new (rounded mode increment (place position) old) rounds (rounded_right mode increment (place position) old)
