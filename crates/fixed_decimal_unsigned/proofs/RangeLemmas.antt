-- Places and sizes: where the first and the last digit of a count are.
use Rattle.std.proofs.Common.{◌≡◌, ℕ, ◌+◌, ◌-◌, ◌*◌, ◌%◌, ◌^◌, ◌<◌, ◌≤◌, max, min, List, [], ◌∷◌, length, refl, sym, ap, ◌∙◌, subst, arith, inl, inr, ⊎_elim}
use Rattle.std.proofs.Math.Nat.{zero-mul, eq-zero-or-pos, mul-mod_left, pow-le-pow_right, zero-mod}
use Rattle.fixed_decimal_unsigned.specs.Number.{Number}
use Rattle.fixed_decimal_digits.specs.Rounding.{count_limit, IsLimited, IsRounded, IsMultiple, increment_number}
use Rattle.fixed_decimal_digits.specs.declared.RoundingIncrement.{RoundingIncrement}
use Rattle.fixed_decimal_digits.specs.DigitList.{IsTrimmed, count_of}
use Rattle.fixed_decimal_unsigned.specs.DigitCount.{HoldsDigits}
use Rattle.fixed_decimal_unsigned.specs.Range.{IsHighest, Rounds}
use Rattle.fixed_decimal_unsigned.specs.Stored.{IsStored}
use Rattle.fixed_decimal_digits.specs.declared.UnsignedRoundingMode.{UnsignedRoundingMode}
use Rattle.fixed_decimal_digits.proofs.TenLemmas.{tens_apart, tens_positive}
use Rattle.fixed_decimal_digits.proofs.CountLemmas.{count_reaches, count_below, count_none}
use Rattle.fixed_decimal_digits.proofs.RoundingLemmas.{rounded_multiple}
use Rattle.fixed_decimal_digits.proofs.RoundingStepLemmas.{whole_room, top_below}

pub trimmed_of : (ds : List ℕ) (top low high : ℕ) → IsStored ds top low high → IsTrimmed ds top
trimmed_of ds top low high s = record { tight = s.tight; room = let r = s.room in omega arith; zero_top = s.zero_top }

pub holds_length : (ds : List ℕ) (top low places : ℕ) → IsTrimmed ds top → HoldsDigits (count_of ds top) low places → length ds ≤ places
holds_length [] top low places h d = omega arith
holds_length (c ∷ cs) top low places h d =
    let a = whole_room (c ∷ cs) top low h (omega arith) d.whole in
    let b = top_below (c ∷ cs) top (low + places) h (omega arith) d.below in
    omega arith

lt_through : (n a b : ℕ) → n < a → a ≤ b → n < b
lt_through n a b h k = omega arith

le_through : (a b n : ℕ) → a ≤ b → b ≤ n → a ≤ n
le_through a b n h k = omega arith

pub below_limit : (n k : ℕ) → n < 10 ^ k → k ≤ 65536 → n < count_limit
unfolding count_limit
below_limit n k h l = lt_through n (10 ^ k) (10 ^ 65536) h (pow-le-pow_right {n = 10} (omega arith) {i = k} {j = 65536} l)

pub reaches_limit : (n k : ℕ) → 10 ^ k ≤ n → 65536 ≤ k → count_limit ≤ n
unfolding count_limit
reaches_limit n k h l = le_through (10 ^ 65536) (10 ^ k) n (pow-le-pow_right {n = 10} (omega arith) {i = 65536} {j = k} l) h

-- a count within the places, and one past them
pub limited_same : (ds : List ℕ) (top : ℕ) → IsTrimmed ds top → top < 65536 → IsLimited (count_of ds top) (count_of ds top)
limited_same ds top h l = inl (below_limit (count_of ds top) (top + 1) (count_below ds top h.tight.tens h.room) (omega arith), refl)

pub limited_zero : (ds new : List ℕ) (top t : ℕ) → IsTrimmed ds top → 65536 ≤ top → new ≡ [] → IsLimited (count_of ds top) (count_of new t)
limited_zero ds new top t h l e =
    let some : 0 < length ds = ⊎_elim (λ z. let at = h.zero_top z in absurd (omega arith)) (λ p. p) (eq-zero-or-pos (length ds)) in
    inr (reaches_limit (count_of ds top) top (count_reaches ds top some (h.tight.first some) h.room) l, count_none new t (ap length e))

multiple_power : (c k u : ℕ) → c * (k * u) ≡ c * k * u
multiple_power c k u = omega arith

pub multiple_whole : (k place n : ℕ) → IsMultiple (k * 10 ^ place) n → n % 10 ^ place ≡ 0
multiple_whole k place n m = ap (λ x. x % 10 ^ place) (m.1 ∙ multiple_power m.0 k (10 ^ place)) ∙ mul-mod_left (m.0 * k) (10 ^ place)

pub limited_whole : (place n limited : ℕ) → IsLimited n limited → n % 10 ^ place ≡ 0 → limited % 10 ^ place ≡ 0
limited_whole place n limited (inl h) w = ap (λ x. x % 10 ^ place) h.1 ∙ w
limited_whole place n limited (inr h) w = ap (λ x. x % 10 ^ place) h.1 ∙ zero-mod (10 ^ place)

-- the range that the code sets is the least one
pub highest_is : (ds : List ℕ) (top least place : ℕ) → IsTrimmed ds top → 32768 ≤ least → IsHighest least place (count_of ds top) (max (max least (place - 1)) top)
highest_is [] top least place h l = record {
  keeps = omega arith;
  position = omega arith;
  holds = let z = tens_positive (max (max least (place - 1)) top + 1) in omega (arith, zero-mul (10 ^ (top + 1 - 0)));
  lowest = λ x a b d. let t = h.zero_top refl in omega arith;
}
highest_is (c ∷ cs) top least place h l = record {
  keeps = omega arith;
  position = omega arith;
  holds = let b = count_below (c ∷ cs) top h.tight.tens h.room in let up = tens_apart (top + 1) (max (max least (place - 1)) top + 1) (omega arith) in omega arith;
  lowest = λ x a b d. let t = top_below (c ∷ cs) top (x + 1) h (omega arith) d in omega arith;
}

rounded_room : (ds : List ℕ) (top place : ℕ) → IsTrimmed ds top → count_of ds top % 10 ^ place ≡ 0 → min place 32768 + length ds ≤ top + 1
rounded_room [] top place h w = let t = h.zero_top refl in omega arith
rounded_room (c ∷ cs) top place h w = let r = whole_room (c ∷ cs) top place h (omega arith) w in omega arith

-- the invariant after a rounding
pub rounded_stored : (ds : List ℕ) (top place high : ℕ) → IsTrimmed ds top → 32768 ≤ high → count_of ds top % 10 ^ place ≡ 0 → IsStored ds top (min place 32768) (max (max high (place - 1)) top)
rounded_stored ds top place high h l w = record {
  tight = h.tight;
  room = rounded_room ds top place h w;
  below = omega arith;
  low_end = omega arith;
  ones = omega arith;
  zero_top = h.zero_top;
}

pub rounded_kept : (ds : List ℕ) (top place high lo hi : ℕ) → IsTrimmed ds top → 32768 ≤ high → count_of ds top % 10 ^ place ≡ 0 → lo ≡ min place 32768 → hi ≡ max (max high (place - 1)) top → IsStored ds top lo hi
rounded_kept ds top place high lo hi h l w el eh =
    subst (λ x. IsStored ds top x hi) (sym el) (subst (λ x. IsStored ds top (min place 32768) x) (sym eh) (rounded_stored ds top place high h l w))

-- the number after a rounding
pub rounds_made : (mode : UnsignedRoundingMode) (increment : RoundingIncrement) (p q : ℕ) (view old : Number) (multiple : ℕ) (new : List ℕ) (top lo hi : ℕ) → p ≡ q → view ≡ old → IsTrimmed new top → 32768 ≤ view.high
    → IsRounded mode (increment_number increment * 10 ^ p) view.count multiple → IsLimited multiple (count_of new top) → lo ≡ min p 32768 → hi ≡ max (max view.high (p - 1)) top
    → Rounds mode increment q old (record { count = count_of new top; low = lo; high = hi })
rounds_made mode increment p q view old multiple new top lo hi ep ev h l r lim el eh =
    subst (λ x. Rounds mode increment x old (record { count = count_of new top; low = lo; high = hi })) ep
    (subst (λ v. Rounds mode increment p v (record { count = count_of new top; low = lo; high = hi })) ev
    (record {
      taken = record { multiple = multiple; rounded = r; is = lim };
      low = el;
      high = subst (λ x. IsHighest view.high p (count_of new top) x) (sym eh) (highest_is new top view.high p h l);
    }))

pub limited_multiple : (mode : UnsignedRoundingMode) (increment : RoundingIncrement) (place n multiple limited : ℕ) → IsRounded mode (increment_number increment * 10 ^ place) n multiple → IsLimited multiple limited → limited % 10 ^ place ≡ 0
limited_multiple mode increment place n multiple limited r lim =
    limited_whole place multiple limited lim (multiple_whole (increment_number increment) place multiple (rounded_multiple mode (increment_number increment * 10 ^ place) n multiple r))

pub turns_bounded : (before after len digits : ℕ) → after ≤ before + len → len ≤ digits → after ≤ before + digits + 2
turns_bounded before after len digits h l = omega arith
