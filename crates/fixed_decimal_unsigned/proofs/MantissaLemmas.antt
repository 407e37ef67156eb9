-- A mantissa: its two parts one after the other, and its zeros at the end.
use Rattle.std.proofs.Common.{◌≡◌, ℕ, zero, suc, ◌+◌, ◌-◌, ◌*◌, ◌%◌, ◌^◌, ◌<◌, ◌≤◌, ◌==◌, min, max, List, [], ◌∷◌, ◌++◌, length, refl, sym, ap, ◌∙◌, arith}
use Rattle.std.proofs.Math.Nat.{pow-suc, zero-mul, add_assoc, mul_assoc, mul-pos, add-mul-mod_self_right}
use Rattle.std.proofs.lemmas.List.{append-nil}
use Rattle.std.specs.Char.{digit_value}
use Rattle.std.specs.Str.Parse.{digits_value_after}
use Rattle.fixed_decimal_unsigned.specs.Number.{Number}
use Rattle.fixed_decimal_unsigned.specs.NumberText.{spelled, AreEndsIn, number_at}
use Rattle.fixed_decimal_digits.proofs.DigitsLemmas.{spread}
use Rattle.fixed_decimal_digits.proofs.TenLemmas.{tens_split, tens_next, tens_positive}
use Rattle.fixed_decimal_unsigned.proofs.StoredLemmas.{positive_tested}

pub spelled_after : (xs ys : List ℕ) (n : ℕ) → digits_value_after 10 (digits_value_after 10 n xs) ys ≡ digits_value_after 10 n (xs ++ ys)
spelled_after [] ys n = refl
spelled_after (x ∷ xs) ys n = spelled_after xs ys (n * 10 + digit_value x)

pub spelled_from : (n : ℕ) (xs : List ℕ) → digits_value_after 10 n xs ≡ n * 10 ^ length xs + spelled xs
spelled_from n [] = omega arith
spelled_from n (x ∷ xs) =
    spelled_from (n * 10 + digit_value x) xs
    ∙ ap (λ k. k + spelled xs) (spread n (digit_value x) (10 ^ length xs) (10 ^ suc (length xs)) (pow-suc 10 (length xs)))
    ∙ add_assoc (n * 10 ^ suc (length xs)) ((0 * 10 + digit_value x) * 10 ^ length xs) (spelled xs)
    ∙ ap (λ k. n * 10 ^ suc (length xs) + k) (sym (spelled_from (0 * 10 + digit_value x) xs))

pub spelled_joined : (xs ys : List ℕ) → spelled (xs ++ ys) ≡ spelled xs * 10 ^ length ys + spelled ys
spelled_joined xs ys = sym (spelled_after xs ys 0) ∙ spelled_from (spelled xs) ys

factor : (a u b t v : ℕ) → v ≡ u * t → a * v + b * t ≡ (a * u + b) * t
factor a u b t v e = omega (arith, ap (λ x. a * x) e)

-- the zeros at the end of the fraction, where other digits are before them
pub mantissa_kept_both : (integer fraction kept : List ℕ) → length kept ≤ length fraction → spelled fraction ≡ spelled kept * 10 ^ (length fraction - length kept)
    → spelled (integer ++ fraction) ≡ spelled (integer ++ kept) * 10 ^ (length integer + length fraction - (length integer + length kept))
mantissa_kept_both integer fraction kept l h =
    let e : length integer + length fraction - (length integer + length kept) ≡ length fraction - length kept = omega arith in
    let power : 10 ^ length fraction ≡ 10 ^ length kept * 10 ^ (length fraction - length kept) = tens_split (length kept) (length fraction - length kept) (length fraction) (omega arith) in
    spelled_joined integer fraction ∙ ap (λ x. spelled integer * 10 ^ length fraction + x) h
    ∙ factor (spelled integer) (10 ^ length kept) (spelled kept) (10 ^ (length fraction - length kept)) (10 ^ length fraction) power
    ∙ ap (λ x. x * 10 ^ (length fraction - length kept)) (sym (spelled_joined integer kept))
    ∙ ap (λ k. spelled (integer ++ kept) * 10 ^ k) (sym e)

nothing : (a u n t k : ℕ) → a ≡ n * t → a * u + 0 * k ≡ n * (t * u)
nothing a u n t k e = omega (arith, ap (λ x. x * u) e)

-- the zeros of a whole fraction, and those at the end of the digits before the point
pub mantissa_kept_integer : (integer fraction front kept : List ℕ) → length kept ≡ 0 → length kept ≤ length fraction → spelled fraction ≡ spelled kept * 10 ^ (length fraction - length kept)
    → length front ≤ length integer → spelled integer ≡ spelled front * 10 ^ (length integer - length front)
    → spelled (integer ++ fraction) ≡ spelled (front ++ kept) * 10 ^ (length integer + length fraction - (length front + length kept))
mantissa_kept_integer integer fraction front [] z l h lf hf =
    let e : (length integer - length front) + length fraction ≡ length integer + length fraction - (length front + 0) = omega arith in
    spelled_joined integer fraction ∙ ap (λ x. spelled integer * 10 ^ length fraction + x) h
    ∙ nothing (spelled integer) (10 ^ length fraction) (spelled front) (10 ^ (length integer - length front)) (10 ^ (length fraction - 0)) hf
    ∙ ap (λ x. spelled front * x) (sym (tens_split (length integer - length front) (length fraction) (length integer + length fraction - (length front + 0)) e))
    ∙ ap (λ x. spelled x * 10 ^ (length integer + length fraction - (length front + 0))) (sym (append-nil front))
mantissa_kept_integer integer fraction front (c ∷ cs) z l h lf hf = absurd (omega arith)

multiple : (a u b k : ℕ) → u ≡ k * 10 → (a * u + b) % 10 ≡ b % 10
multiple a u b k e =
    let shape : a * u + b ≡ b + (a * k) * 10 = omega (arith, ap (λ x. a * x) e) in
    ap (λ x. x % 10) shape ∙ add-mul-mod_self_right b (a * k) 10

-- the last digit of a mantissa that ends in a fraction
pub mantissa_last : (integer kept : List ℕ) → 0 < length kept → 0 < spelled kept % 10 → 0 < spelled (integer ++ kept) % 10
mantissa_last integer kept p h =
    let e : length kept - 1 + 1 ≡ length kept = omega arith in
    let same : spelled (integer ++ kept) % 10 ≡ spelled kept % 10 =
    ap (λ x. x % 10) (spelled_joined integer kept)
    ∙ multiple (spelled integer) (10 ^ length kept) (spelled kept) (10 ^ (length kept - 1)) (ap (λ k. 10 ^ k) (sym e) ∙ tens_next (length kept - 1)) in
    omega arith

pub spelled_front_only : (front kept : List ℕ) → length kept ≡ 0 → spelled (front ++ kept) ≡ spelled front
spelled_front_only front [] z = ap spelled (append-nil front)
spelled_front_only front (c ∷ cs) z = absurd (omega arith)

-- the zeros at the front
pub front_kept : (integer fraction kept : List ℕ) → spelled integer ≡ spelled kept → spelled (integer ++ fraction) ≡ spelled (kept ++ fraction)
front_kept integer fraction kept e = spelled_joined integer fraction ∙ ap (λ n. n * 10 ^ length fraction + spelled fraction) e ∙ sym (spelled_joined kept fraction)

pub front_dropped : (integer fraction kept rest : List ℕ) → length kept ≡ 0 → spelled integer ≡ spelled kept → spelled fraction ≡ spelled rest → spelled (integer ++ fraction) ≡ spelled (kept ++ rest)
front_dropped integer fraction [] rest z e f = front_kept integer fraction [] e ∙ f
front_dropped integer fraction (c ∷ cs) rest z e f = absurd (omega arith)

mod_positive : (k : ℕ) → 0 < k % 10 → 0 < k
mod_positive k h = omega arith

-- a mantissa is zero exactly where no digits are kept of it
pub none_kept : (mantissa kept zeros count : ℕ) → mantissa ≡ kept * 10 ^ zeros → (count ≡ 0 → kept ≡ 0) → (0 < count → 0 < kept % 10) → (count == 0) ≡ (mantissa == 0)
none_kept mantissa kept zeros zero e z l = ap (λ n. n == 0) (sym (e ∙ ap (λ k. k * 10 ^ zeros) (z refl) ∙ zero-mul (10 ^ zeros)))
none_kept mantissa kept zeros (suc n) e z l =
    let last : 0 < kept % 10 = l (omega arith) in
    let some : 0 < kept * 10 ^ zeros = mul-pos (mod_positive kept last) (tens_positive zeros) in
    positive_tested (suc n) mantissa (omega arith) (omega arith)

pub spelled_none : (integer fraction : List ℕ) → length integer + length fraction ≡ 0 → spelled (integer ++ fraction) ≡ 0
spelled_none [] [] e = refl
spelled_none [] (c ∷ cs) e = absurd (omega arith)
spelled_none (c ∷ cs) fraction e = absurd (omega arith)

-- a cap above every exponent in range changes nothing
pub capped_ends : (above below up down : ℕ) → AreEndsIn above below up down → AreEndsIn above below (min up 65536) (min down 65536)
capped_ends above below up down h = record {
  exponent_high = let a = h.exponent_high in omega arith;
  exponent_low = let a = h.exponent_low in omega arith;
  first = let a = h.first in let b = h.exponent_low in let d = h.exponent_high in omega arith;
  last = let a = h.last in let b = h.exponent_low in let d = h.exponent_high in omega arith;
}

pub ends_uncapped : (above below up down : ℕ) → AreEndsIn above below (min up 65536) (min down 65536) → AreEndsIn above below up down
ends_uncapped above below up down h = record {
  exponent_high = let a = h.exponent_high in omega arith;
  exponent_low = let a = h.exponent_low in omega arith;
  first = let a = h.first in let b = h.exponent_low in let d = h.exponent_high in omega arith;
  last = let a = h.last in let b = h.exponent_low in let d = h.exponent_high in omega arith;
}

abbrev pub number_made : ℕ → ℕ → ℕ → Number
number_made a b c = record { count = a; low = b; high = c }

pub same_number : (a b c d e f : ℕ) → a ≡ b → c ≡ d → e ≡ f → number_made a c e ≡ number_made b d f
same_number a b c d e f h i j = cc

-- the number that is assembled is the one that the parts name
pub assembled_is : (mantissa above below up down number zeros first last : ℕ) → AreEndsIn above below up down → 0 < above + below → mantissa ≡ number * 10 ^ zeros
    → first + (down + 1) ≡ 32768 + up + above → last + (below + down) ≡ 32768 + up
    → number_made (number * 10 ^ (last + zeros)) (min 32768 last) (max 32768 first) ≡ number_at mantissa above below up down
assembled_is mantissa above below up down number zeros first last h some m f l =
    let at : last ≡ 32768 + up - (below + down) = let a = h.last in omega arith in
    let top : first ≡ 32768 + up + above - (down + 1) = let a = h.last in omega arith in
    let power : 10 ^ (last + zeros) ≡ 10 ^ zeros * 10 ^ last = tens_split zeros last (last + zeros) (omega arith) in
    let count : number * 10 ^ (last + zeros) ≡ mantissa * 10 ^ last = ap (λ x. number * x) power ∙ sym (mul_assoc number (10 ^ zeros) (10 ^ last)) ∙ ap (λ x. x * 10 ^ last) (sym m) in
    same_number (number * 10 ^ (last + zeros)) (mantissa * 10 ^ (32768 + up - (below + down))) (min 32768 last) (min 32768 (32768 + up - (below + down))) (max 32768 first) (max 32768 (32768 + up + above - (down + 1)))
    (count ∙ ap (λ k. mantissa * 10 ^ k) at) (ap (λ k. min 32768 k) at) (ap (λ k. max 32768 k) top)

pub capped_same : (n m most : ℕ) → n ≡ min m 65536 → n ≤ most → most < 65536 → n ≡ m
capped_same n m most e l s = omega arith

pub from_fields : (v : Number) (count low high : ℕ) → v.count ≡ count → v.low ≡ low → v.high ≡ high → v ≡ number_made count low high
from_fields v count low high a b c = same_number v.count count v.low low v.high high a b c

pub zeros_grouped : (a b c d : ℕ) → a + b - (c + d) ≡ a + b - c - d
zeros_grouped a b c d = omega arith
