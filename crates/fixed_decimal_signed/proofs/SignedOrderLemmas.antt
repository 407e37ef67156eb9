-- Rounding by size under a sign is rounding by order: above zero the two say the same, and below it each is the other's mirror.
use Rattle.std.proofs.Common.{◌≡◌, ◌≢◌, ℕ, suc, ◌+◌, ◌≤◌, refl, sym, ap, ◌∙◌, subst, arith}
use Rattle.std.specs.Prelude.{ℤ, pos, negsuc, ◌≤ℤ◌, neg_ℤ, nat_abs, ◌↔◌}
use Rattle.std.proofs.lemmas.Int.{ints}
use Rattle.fixed_decimal_unsigned.specs.Rounding.{IsMultiple, distance, IsTruncated, IsExpanded, IsNearest, IsRounded}
use Rattle.fixed_decimal_unsigned.specs.declared.UnsignedRoundingMode.{UnsignedRoundingMode}
use Rattle.fixed_decimal_signed.specs.SignedOrder.{signed_count, IsSignedMultiple, gap, IsFloor, IsCeil, IsNearestSigned, IsRoundedByOrder}
use Rattle.fixed_decimal_signed.specs.SignedRounding.{size_mode}
use Rattle.fixed_decimal_signed.specs.declared.sign.Sign.{Sign}
use Rattle.fixed_decimal_signed.specs.declared.sign.Sign.TheVariants.{None, Negative, Positive}
use Rattle.fixed_decimal_signed.specs.declared.modes.SignedRoundingMode.{SignedRoundingMode}
use Rattle.fixed_decimal_signed.specs.declared.modes.SignedRoundingMode.TheVariants.{Unsigned, Ceil, Floor, HalfCeil, HalfFloor}

-- order and distance above zero
le_up : (n m : ℕ) → n ≤ m → pos n ≤ℤ pos m
le_up n m h = omega (arith, ints)

le_down : (n m : ℕ) → pos n ≤ℤ pos m → n ≤ m
le_down n m h = omega (arith, ints)

below_zero : (n m : ℕ) → pos n ≤ℤ negsuc m → ⊥
below_zero n m h = omega (arith, ints)

above_negative : (n m : ℕ) → negsuc n ≤ℤ pos m
above_negative n m = omega (arith, ints)

gap_above : (n m : ℕ) → gap (pos n) (pos m) ≡ distance n m
gap_above n m = omega (arith, ints)

gap_across : (n m : ℕ) → gap (pos n) (negsuc m) ≡ n + suc m
gap_across n m = omega (arith, ints)

pos_same : (n m : ℕ) → pos n ≡ pos m → n ≡ m
pos_same n m e = cc

-- zero is a multiple
zero_multiple : (unit : ℕ) → IsMultiple unit 0
zero_multiple unit = (0, omega arith)

-- the next multiple above, and below
ceil_least : (unit n m : ℕ) → IsExpanded unit n m → (other : ℤ) → IsSignedMultiple unit other → pos n ≤ℤ other → pos m ≤ℤ other
ceil_least unit n m h (pos k) d l = le_up m k (h.least k d (le_down n k l))
ceil_least unit n m h (negsuc k) d l = absurd (below_zero n k l)

expanded_ceil : (unit n m : ℕ) → IsExpanded unit n m → IsCeil unit (pos n) (pos m)
expanded_ceil unit n m h = record { multiple = h.multiple; over = le_up n m h.over; least = ceil_least unit n m h }

ceil_expanded : (unit n m : ℕ) → IsCeil unit (pos n) (pos m) → IsExpanded unit n m
ceil_expanded unit n m h = record {
  multiple = h.multiple;
  over = le_down n m h.over;
  least = λ other d l. le_down m other (h.least (pos other) d (le_up n other l));
}

floor_greatest : (unit n m : ℕ) → IsTruncated unit n m → (other : ℤ) → IsSignedMultiple unit other → other ≤ℤ pos n → other ≤ℤ pos m
floor_greatest unit n m h (pos k) d l = le_up k m (h.greatest k d (le_down k n l))
floor_greatest unit n m h (negsuc k) d l = above_negative k m

truncated_floor : (unit n m : ℕ) → IsTruncated unit n m → IsFloor unit (pos n) (pos m)
truncated_floor unit n m h = record { multiple = h.multiple; under = le_up m n h.under; greatest = floor_greatest unit n m h }

floor_truncated : (unit n m : ℕ) → IsFloor unit (pos n) (pos m) → IsTruncated unit n m
floor_truncated unit n m h = record {
  multiple = h.multiple;
  under = le_down m n h.under;
  greatest = λ other d l. le_down other m (h.greatest (pos other) d (le_up other n l));
}

-- the nearest multiple is not below zero
from_zero : (n m : ℕ) → distance n m ≤ distance n 0 → distance n m ≤ n
from_zero n m h = omega arith

nearest_up : (unit n m : ℕ) (takes : ℕ → Type 0) → IsNearest unit n m takes → (other : ℤ) → IsSignedMultiple unit other → gap (pos n) (pos m) ≤ gap (pos n) other
nearest_up unit n m takes h (pos k) d = rw (gap_above n m, gap_above n k) (h.nearest k d)
nearest_up unit n m takes h (negsuc k) d =
    let near = from_zero n m (h.nearest 0 (zero_multiple unit)) in
    rw (gap_above n m, gap_across n k) (omega arith)

tied_up : (unit n m : ℕ) (takes : ℕ → Type 0) (signed : ℤ → Type 0) → ((k : ℕ) → takes k → signed (pos k)) → IsNearest unit n m takes
    → (other : ℤ) → IsSignedMultiple unit other → other ≢ pos m → gap (pos n) other ≡ gap (pos n) (pos m) → signed other
tied_up unit n m takes signed up h (pos k) d ne e = up k (h.tied k d (λ same. ne (ap pos same)) (sym (gap_above n k) ∙ e ∙ gap_above n m))
tied_up unit n m takes signed up h (negsuc k) d ne e =
    let near = from_zero n m (h.nearest 0 (zero_multiple unit)) in
    let far : n + suc k ≡ distance n m = sym (gap_across n k) ∙ e ∙ gap_above n m in
    absurd (omega arith)

nearest_signed : (unit n m : ℕ) (takes : ℕ → Type 0) (signed : ℤ → Type 0) → ((k : ℕ) → takes k → signed (pos k)) → IsNearest unit n m takes → IsNearestSigned unit (pos n) (pos m) signed
nearest_signed unit n m takes signed up h = record {
  multiple = h.multiple;
  nearest = nearest_up unit n m takes h;
  tied = tied_up unit n m takes signed up h;
}

nearest_unsigned : (unit n m : ℕ) (takes : ℕ → Type 0) (signed : ℤ → Type 0) → ((k : ℕ) → signed (pos k) → takes k) → IsNearestSigned unit (pos n) (pos m) signed → IsNearest unit n m takes
nearest_unsigned unit n m takes signed down h = record {
  multiple = h.multiple;
  nearest = λ other d. subst (λ x. x ≤ distance n other) (gap_above n m) (subst (λ x. gap (pos n) (pos m) ≤ x) (gap_above n other) (h.nearest (pos other) d));
  tied = λ other d ne e. down other (h.tied (pos other) d (λ same. ne (pos_same other m same)) (gap_above n other ∙ e ∙ sym (gap_above n m)));
}

-- the mirror at zero
abs_mirror : (a : ℤ) → nat_abs (neg_ℤ a) ≡ nat_abs a
abs_mirror a = omega (arith, ints)

twice : (a : ℤ) → neg_ℤ (neg_ℤ a) ≡ a
twice a = omega (arith, ints)

le_mirror : (a b : ℤ) → a ≤ℤ b → neg_ℤ b ≤ℤ neg_ℤ a
le_mirror a b h = omega (arith, ints)

le_left : (a b : ℤ) → neg_ℤ a ≤ℤ b → neg_ℤ b ≤ℤ a
le_left a b h = omega (arith, ints)

le_right : (a b : ℤ) → a ≤ℤ neg_ℤ b → b ≤ℤ neg_ℤ a
le_right a b h = omega (arith, ints)

back_up : (a b : ℤ) → neg_ℤ a ≤ℤ neg_ℤ b → b ≤ℤ a
back_up a b h = omega (arith, ints)

back_down : (a b : ℤ) → neg_ℤ b ≤ℤ neg_ℤ a → a ≤ℤ b
back_down a b h = omega (arith, ints)

gap_mirror : (a b : ℤ) → gap (neg_ℤ a) (neg_ℤ b) ≡ gap a b
gap_mirror a b = omega (arith, ints)

gap_left : (a b : ℤ) → gap (neg_ℤ a) b ≡ gap a (neg_ℤ b)
gap_left a b = omega (arith, ints)

multiple_mirror : (unit : ℕ) (m : ℤ) → IsSignedMultiple unit m → IsSignedMultiple unit (neg_ℤ m)
multiple_mirror unit m d = subst (IsMultiple unit) (sym (abs_mirror m)) d

ceil_mirror : (unit : ℕ) (n m : ℤ) → IsCeil unit n m → IsFloor unit (neg_ℤ n) (neg_ℤ m)
ceil_mirror unit n m h = record {
  multiple = multiple_mirror unit m h.multiple;
  under = le_mirror n m h.over;
  greatest = λ other d l. le_right m other (h.least (neg_ℤ other) (multiple_mirror unit other d) (le_right other n l));
}

floor_mirror : (unit : ℕ) (n m : ℤ) → IsFloor unit n m → IsCeil unit (neg_ℤ n) (neg_ℤ m)
floor_mirror unit n m h = record {
  multiple = multiple_mirror unit m h.multiple;
  over = le_mirror m n h.under;
  least = λ other d l. le_left other m (h.greatest (neg_ℤ other) (multiple_mirror unit other d) (le_left n other l));
}

nearest_mirror : (unit : ℕ) (n m : ℤ) (takes mirrored : ℤ → Type 0) → ((k : ℤ) → takes (neg_ℤ k) → mirrored k) → IsNearestSigned unit n m takes → IsNearestSigned unit (neg_ℤ n) (neg_ℤ m) mirrored
nearest_mirror unit n m takes mirrored turn h = record {
  multiple = multiple_mirror unit m h.multiple;
  nearest = λ other d. subst (λ x. x ≤ gap (neg_ℤ n) other) (sym (gap_mirror n m)) (subst (λ x. gap n m ≤ x) (sym (gap_left n other)) (h.nearest (neg_ℤ other) (multiple_mirror unit other d)));
  tied = λ other d ne e. turn other (h.tied (neg_ℤ other) (multiple_mirror unit other d) (λ same. ne (sym (twice other) ∙ ap neg_ℤ same)) (sym (gap_left n other) ∙ e ∙ gap_mirror n m));
}

both_ways : {P Q : Type 0} → (P → Q) → (Q → P) → P ↔ Q
both_ways f g = (f, g)

-- back from below zero
ceil_back : (unit n m : ℕ) → IsCeil unit (neg_ℤ (pos n)) (neg_ℤ (pos m)) → IsFloor unit (pos n) (pos m)
ceil_back unit n m h =
    subst (λ a. IsFloor unit a (pos m)) (twice (pos n)) (subst (λ b. IsFloor unit (neg_ℤ (neg_ℤ (pos n))) b) (twice (pos m)) (ceil_mirror unit (neg_ℤ (pos n)) (neg_ℤ (pos m)) h))

floor_back : (unit n m : ℕ) → IsFloor unit (neg_ℤ (pos n)) (neg_ℤ (pos m)) → IsCeil unit (pos n) (pos m)
floor_back unit n m h =
    subst (λ a. IsCeil unit a (pos m)) (twice (pos n)) (subst (λ b. IsCeil unit (neg_ℤ (neg_ℤ (pos n))) b) (twice (pos m)) (floor_mirror unit (neg_ℤ (pos n)) (neg_ℤ (pos m)) h))

nearest_back : (unit n m : ℕ) (takes mirrored : ℤ → Type 0) → ((k : ℤ) → takes (neg_ℤ k) → mirrored k) → IsNearestSigned unit (neg_ℤ (pos n)) (neg_ℤ (pos m)) takes → IsNearestSigned unit (pos n) (pos m) mirrored
nearest_back unit n m takes mirrored turn h =
    subst (λ a. IsNearestSigned unit a (pos m) mirrored) (twice (pos n))
    (subst (λ b. IsNearestSigned unit (neg_ℤ (neg_ℤ (pos n))) b mirrored) (twice (pos m)) (nearest_mirror unit (neg_ℤ (pos n)) (neg_ℤ (pos m)) takes mirrored turn h))

ceil_above : (unit n m : ℕ) → IsExpanded unit n m ↔ IsCeil unit (pos n) (pos m)
ceil_above unit n m = both_ways (expanded_ceil unit n m) (ceil_expanded unit n m)

floor_above : (unit n m : ℕ) → IsTruncated unit n m ↔ IsFloor unit (pos n) (pos m)
floor_above unit n m = both_ways (truncated_floor unit n m) (floor_truncated unit n m)

half_ceil_above : (unit n m : ℕ) → IsNearest unit n m (λ other. other ≤ m) ↔ IsNearestSigned unit (pos n) (pos m) (λ other. other ≤ℤ pos m)
half_ceil_above unit n m =
    both_ways (nearest_signed unit n m (λ other. other ≤ m) (λ other. other ≤ℤ pos m) (λ k. le_up k m)) (nearest_unsigned unit n m (λ other. other ≤ m) (λ other. other ≤ℤ pos m) (λ k. le_down k m))

half_floor_above : (unit n m : ℕ) → IsNearest unit n m (λ other. m ≤ other) ↔ IsNearestSigned unit (pos n) (pos m) (λ other. pos m ≤ℤ other)
half_floor_above unit n m =
    both_ways (nearest_signed unit n m (λ other. m ≤ other) (λ other. pos m ≤ℤ other) (λ k. le_up m k)) (nearest_unsigned unit n m (λ other. m ≤ other) (λ other. pos m ≤ℤ other) (λ k. le_down m k))

ceil_below : (unit n m : ℕ) → IsTruncated unit n m ↔ IsCeil unit (neg_ℤ (pos n)) (neg_ℤ (pos m))
ceil_below unit n m =
    both_ways (λ h. floor_mirror unit (pos n) (pos m) (truncated_floor unit n m h)) (λ h. floor_truncated unit n m (ceil_back unit n m h))

floor_below : (unit n m : ℕ) → IsExpanded unit n m ↔ IsFloor unit (neg_ℤ (pos n)) (neg_ℤ (pos m))
floor_below unit n m =
    both_ways (λ h. ceil_mirror unit (pos n) (pos m) (expanded_ceil unit n m h)) (λ h. ceil_expanded unit n m (floor_back unit n m h))

half_ceil_below : (unit n m : ℕ) → IsNearest unit n m (λ other. m ≤ other) ↔ IsNearestSigned unit (neg_ℤ (pos n)) (neg_ℤ (pos m)) (λ other. other ≤ℤ neg_ℤ (pos m))
half_ceil_below unit n m =
    both_ways
    (λ h. nearest_mirror unit (pos n) (pos m) (λ other. pos m ≤ℤ other) (λ other. other ≤ℤ neg_ℤ (pos m)) (λ k. le_right (pos m) k) ((half_floor_above unit n m).0 h))
    (λ h. (half_floor_above unit n m).1 (nearest_back unit n m (λ other. other ≤ℤ neg_ℤ (pos m)) (λ other. pos m ≤ℤ other) (λ k. back_up k (pos m)) h))

half_floor_below : (unit n m : ℕ) → IsNearest unit n m (λ other. other ≤ m) ↔ IsNearestSigned unit (neg_ℤ (pos n)) (neg_ℤ (pos m)) (λ other. neg_ℤ (pos m) ≤ℤ other)
half_floor_below unit n m =
    both_ways
    (λ h. nearest_mirror unit (pos n) (pos m) (λ other. other ≤ℤ pos m) (λ other. neg_ℤ (pos m) ≤ℤ other) (λ k. le_left k (pos m)) ((half_ceil_above unit n m).0 h))
    (λ h. (half_ceil_above unit n m).1 (nearest_back unit n m (λ other. neg_ℤ (pos m) ≤ℤ other) (λ other. other ≤ℤ pos m) (λ k. back_down k (pos m)) h))

-- a mode that goes by size takes no note of the sign
abs_signed : (sign : Sign) (n : ℕ) → nat_abs (signed_count sign n) ≡ n
abs_signed None n = refl
abs_signed Negative n = abs_mirror (pos n)
abs_signed Positive n = refl

by_size : (mode : UnsignedRoundingMode) (sign : Sign) (unit n m : ℕ) → IsRounded mode unit n m ↔ IsRounded mode unit (nat_abs (signed_count sign n)) (nat_abs (signed_count sign m))
by_size mode sign unit n m =
    subst (λ a. IsRounded mode unit n m ↔ IsRounded mode unit a (nat_abs (signed_count sign m))) (sym (abs_signed sign n))
    (subst (λ b. IsRounded mode unit n m ↔ IsRounded mode unit n b) (sym (abs_signed sign m)) (both_ways (λ h. h) (λ h. h)))

pub signed_modes : (mode : SignedRoundingMode) (sign : Sign) (unit n m : ℕ) → IsRounded (size_mode sign mode) unit n m ↔ IsRoundedByOrder mode unit (signed_count sign n) (signed_count sign m)
signed_modes (Unsigned mode) sign unit n m = by_size mode sign unit n m
signed_modes Ceil None unit n m = ceil_above unit n m
signed_modes Ceil Negative unit n m = ceil_below unit n m
signed_modes Ceil Positive unit n m = ceil_above unit n m
signed_modes Floor None unit n m = floor_above unit n m
signed_modes Floor Negative unit n m = floor_below unit n m
signed_modes Floor Positive unit n m = floor_above unit n m
signed_modes HalfCeil None unit n m = half_ceil_above unit n m
signed_modes HalfCeil Negative unit n m = half_ceil_below unit n m
signed_modes HalfCeil Positive unit n m = half_ceil_above unit n m
signed_modes HalfFloor None unit n m = half_floor_above unit n m
signed_modes HalfFloor Negative unit n m = half_floor_below unit n m
signed_modes HalfFloor Positive unit n m = half_floor_above unit n m
