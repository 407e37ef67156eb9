-- The reading with the exponent as a whole number is the reading with two naturals: both ends are the same places.
use Rattle.std.proofs.Common.{◌≡◌, ℕ, ◌+◌, ◌-◌, ◌*◌, ◌^◌, ◌==◌, ◌||◌, min, max, Bool, true, false, cond, List, length, sym, ap, ◌∙◌, arith}
use Rattle.std.specs.Prelude.{ℤ, pos, negsuc, ◌+ℤ◌, ◌-ℤ◌}
use Rattle.std.proofs.lemmas.Int.{ints}
use Rattle.fixed_decimal_unsigned.specs.Number.{Number, place}
use Rattle.fixed_decimal_unsigned.specs.NumberText.{Parts, mantissa_of, spelled, up_of, down_of, IsWithin, number_of}
use Rattle.fixed_decimal_unsigned.specs.ReadNumber.{signed_exponent, exponent_of, highest_of, IsInLimits, read_number}
use Rattle.fixed_decimal_unsigned.specs.Laws.{ReadsByExponent}

-- the exponent is how far it moves the digits up, less how far it moves them down
moved : (zero negative : Bool) (n : ℕ) → cond zero (pos 0) (signed_exponent negative n) ≡ pos (cond (zero || negative) 0 n) -ℤ pos (cond zero 0 (cond negative n 0))
moved true negative n = omega (arith, ints)
moved false true n = omega (arith, ints)
moved false false n = omega (arith, ints)

exponent_is : (parts : Parts) → exponent_of parts ≡ pos (up_of parts) -ℤ pos (down_of parts)
exponent_is parts = moved (mantissa_of parts == 0) parts.negative (spelled parts.exponent)

-- the place of a difference of naturals
place_is : (z : ℤ) (a b : ℕ) → z ≡ pos a -ℤ pos b → place z ≡ 32768 + a - b
place_is (pos n) a b e = omega (arith, ints, e)
place_is (negsuc n) a b e = omega (arith, ints, e)

lowest_place : (x : ℤ) (up down below : ℕ) → x ≡ pos up -ℤ pos down → place (x -ℤ pos below) ≡ 32768 + up - (below + down)
lowest_place x up down below e =
    let f : x -ℤ pos below ≡ pos up -ℤ pos (below + down) = omega (arith, ints, e) in
    place_is (x -ℤ pos below) up (below + down) f

highest_place : (x : ℤ) (up down above : ℕ) → x ≡ pos up -ℤ pos down → place ((x +ℤ pos above) -ℤ pos 1) ≡ 32768 + up + above - (down + 1)
highest_place x up down above e =
    let f : (x +ℤ pos above) -ℤ pos 1 ≡ pos (up + above) -ℤ pos (down + 1) = omega (arith, ints, e) in
    let g : place ((x +ℤ pos above) -ℤ pos 1) ≡ 32768 + (up + above) - (down + 1) = place_is ((x +ℤ pos above) -ℤ pos 1) (up + above) (down + 1) f in
    omega (arith, g)

-- a range of magnitudes with a mantissa
abbrev ranged : ℕ → ℕ → ℕ → Number
ranged mantissa first last = record { count = mantissa * 10 ^ last; low = min 32768 last; high = max 32768 first }

same_number : (parts : Parts) → read_number parts ≡ number_of parts
same_number parts =
    let e = exponent_is parts in
    ap (λ l. ranged (mantissa_of parts) (place (highest_of parts)) l) (lowest_place (exponent_of parts) (up_of parts) (down_of parts) (length parts.fraction) e)
    ∙ ap (λ h. ranged (mantissa_of parts) h (32768 + up_of parts - (length parts.fraction + down_of parts))) (highest_place (exponent_of parts) (up_of parts) (down_of parts) (length parts.integer) e)

-- one of the two moves is none
one_moves : (zero negative : Bool) (n : ℕ) → min (cond (zero || negative) 0 n) (cond zero 0 (cond negative n 0)) ≡ 0
one_moves true negative n = omega arith
one_moves false true n = omega arith
one_moves false false n = omega arith

ends_are : (parts : Parts) → IsWithin parts → IsInLimits parts
ends_are parts h =
    let e = exponent_is parts in
    let low = h.exponent_low in
    let high = h.exponent_high in
    let first = h.first in
    let last = h.last in
    record {
      exponent_low = omega (arith, ints, e, low);
      exponent_high = omega (arith, ints, e, high);
      lowest = omega (arith, ints, e, last);
      highest = omega (arith, ints, e, first);
    }

ends_from : (parts : Parts) → IsInLimits parts → IsWithin parts
ends_from parts h =
    let e = exponent_is parts in
    let one = one_moves (mantissa_of parts == 0) parts.negative (spelled parts.exponent) in
    let low = h.exponent_low in
    let high = h.exponent_high in
    let first = h.highest in
    let last = h.lowest in
    record {
      exponent_high = omega (arith, ints, e, one, high);
      exponent_low = omega (arith, ints, e, one, low);
      first = omega (arith, ints, e, first);
      last = omega (arith, ints, e, last);
    }

pub reads_by_exponent : (text : List ℕ) → ReadsByExponent text
reads_by_exponent text = record {
  number = λ v. (
    (λ h. record { parts = h.parts; spells = h.spells; within = ends_are h.parts h.within; is = h.is ∙ sym (same_number h.parts) }),
    (λ h. record { parts = h.parts; spells = h.spells; within = ends_from h.parts h.within; is = h.is ∙ same_number h.parts }),
  );
  limit = (
    (λ h. record { parts = h.parts; spells = h.spells; past = λ within. h.beyond (ends_from h.parts within) }),
    (λ h. record { parts = h.parts; spells = h.spells; beyond = λ within. h.past (ends_are h.parts within) }),
  );
}
