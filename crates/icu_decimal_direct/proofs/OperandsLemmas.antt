-- The number that digits spell, and the operands of the digits on both sides of a point.
use Rattle.std.proofs.Common.{◌≡◌, ℕ, ◌+◌, ◌-◌, ◌*◌, ◌/◌, ◌%◌, ◌^◌, ◌<◌, ◌≤◌, List, ◌++◌, drop, length, length-drop, length-take, map, get_or, min, pow-add, take, subst, sym, ap, ◌∙◌, arith, inl, inr}
use Rattle.std.proofs.Math.Nat.{add-mul, add_assoc, div-div-eq-div-mul, mod-eq_of_lt, mul_assoc, pow-le-pow_right}
use Rattle.std.proofs.lemmas.Bool.{cases_lt}
use Rattle.std.proofs.lemmas.Nat.{div-mul-add, mod-mul-add}
use Rattle.std.proofs.lemmas.Int.Digits.{digits_value-lt, digits_value_is}
use Rattle.std.proofs.lemmas.List.{length-map, map-append, take-append-drop}
use Rattle.std.proofs.lemmas.Str.Parse.{digits_value-take-le}
use Rattle.std.specs.Char.{digit_value}
use Rattle.std.specs.Int.Digits.{number_from_digits}
use Rattle.fixed_decimal.specs.NumberText.{AreDigits, spelled}
use Rattle.fixed_decimal_digits.proofs.DigitsLemmas.{number_joined}
use Rattle.icu_decimal_plurals.specs.Operands.{operands_of, operands_shown, part_of}
use Rattle.icu_decimal_plurals.proofs.NumberLemmas.{next_value}
use Rattle.icu_decimal_plurals.proofs.OperandsLemmas.{operands_are, part_shifted}
use Rattle.icu_decimal_direct.specs.FewDigits.{AreFewDigits, plain_number}
use Rattle.icu_decimal_direct.proofs.ShownLemmas.{digits_told}
use Rattle.icu_decimal_direct.proofs.LaneLemmas.{digits_take}
use Rattle.icu_decimal_direct.proofs.TextLemmas.{digits_drop}

-- at most eighteen digits spell a number that fits, from each to the next
pub next_fits : (text : List ℕ) (i n : ℕ) → AreDigits text → length text ≤ 18 → i < length text → n ≡ spelled (take i text)
    → n * 10 + digit_value (get_or text i 0) < 10 ^ 18
next_fits text i n digits few inside h =
    let same = next_value text i n inside h in
    let front = digits_value-take-le 10 text (i + 1) (omega arith) in
    let whole = digits_value-lt 10 text digits in
    let bound : 10 ^ length text ≤ 10 ^ 18 = pow-le-pow_right {n = 10} (omega arith) {i = length text} {j = 18} few in
    omega arith

-- digits after others
pub spelled_joined : (xs ys : List ℕ) → spelled (xs ++ ys) ≡ spelled xs * 10 ^ length ys + spelled ys
spelled_joined xs ys =
    let a = map digit_value xs in
    let b = map digit_value ys in
    digits_value_is 10 (xs ++ ys) ∙ ap (number_from_digits 10) (map-append digit_value xs ys) ∙ number_joined a b
    ∙ ap (λ n. n * 10 ^ length b + number_from_digits 10 b) (sym (digits_value_is 10 xs))
    ∙ ap (λ n. spelled xs * 10 ^ n + number_from_digits 10 b) (length-map ys digit_value)
    ∙ ap (λ n. spelled xs * 10 ^ length ys + n) (sym (digits_value_is 10 ys))

-- products
moved : (a b c p t : ℕ) → a * (b * c) + (p * c + t) ≡ (a * b + p) * c + t
moved a b c p t = sym (add_assoc (a * (b * c)) (p * c) t) ∙ ap (λ k. k + t) (ap (λ k. k + p * c) (sym (mul_assoc a b c)) ∙ sym (add-mul (a * b) p c))

-- digits before a point, the first ones after it, and the others
module _ (ones whole part tail v r : ℕ) (p : part < 10 ^ v) (t : tail < 10 ^ r) (few : v + r ≤ ones) where
  abbrev joined : ℕ
  joined = ((whole * 10 ^ v + part) * 10 ^ r + tail) * 10 ^ (ones - (v + r))

  whole_is : part_of joined ones 18 ≡ whole % 10 ^ 18
  whole_is =
      let all : ℕ = (whole * 10 ^ v + part) * 10 ^ r + tail in
      let place : ones - (ones - (v + r)) ≡ v + r = omega (arith, few) in
      let turned : v + r ≡ r + v = omega arith in
      let power : 10 ^ (v + r) ≡ 10 ^ r * 10 ^ v = ap (λ e. 10 ^ e) turned ∙ pow-add 10 r v in
      let front : all / 10 ^ (v + r) ≡ whole = ap (λ m. all / m) power ∙ sym (div-div-eq-div-mul all (10 ^ r) (10 ^ v)) ∙ ap (λ n. n / 10 ^ v) (div-mul-add (whole * 10 ^ v + part) (10 ^ r) tail t) ∙ div-mul-add whole (10 ^ v) part p in
      part_shifted all (ones - (v + r)) ones 18 (omega arith) ∙ ap (λ a. part_of all a 18) place ∙ ap (λ n. n % 10 ^ 18) front

  part_is : part_of joined (ones - v) v ≡ part
  part_is =
      let all : ℕ = (whole * 10 ^ v + part) * 10 ^ r + tail in
      let place : ones - v - (ones - (v + r)) ≡ r = omega (arith, few) in
      part_shifted all (ones - (v + r)) (ones - v) v (omega arith) ∙ ap (λ a. part_of all a v) place
      ∙ ap (λ n. n % 10 ^ v) (div-mul-add (whole * 10 ^ v + part) (10 ^ r) tail t) ∙ mod-mul-add whole (10 ^ v) part p

-- the last eighteen digits
last_is : (integer : List ℕ) → AreDigits integer → spelled (drop (length integer - 18) integer) ≡ spelled integer % 10 ^ 18
last_is integer h =
    let n : ℕ = length integer - 18 in
    let last : List ℕ = drop n integer in
    let size : length last ≡ length integer - n = length-drop n integer in
    let split : spelled integer ≡ spelled (take n integer) * 10 ^ length last + spelled last = ap spelled (sym (take-append-drop n integer)) ∙ spelled_joined (take n integer) last in
    let small = digits_value-lt 10 last (digits_drop n integer h) in
    elim (cases_lt 18 (length integer)) [
      | inl many ↦
          let eighteen : length last ≡ 18 = omega (arith, size, many) in
          sym (ap (λ k. k % 10 ^ 18) (split ∙ ap (λ k. spelled (take n integer) * 10 ^ k + spelled last) eighteen) ∙ mod-mul-add (spelled (take n integer)) (10 ^ 18) (spelled last) (subst (λ k. spelled last < 10 ^ k) eighteen small))
      | inr few ↦
          let none : n ≡ 0 = omega (arith, few) in
          let same : spelled integer ≡ spelled last = ap (λ k. spelled (drop k integer)) (sym none) in
          let bound : 10 ^ length last ≤ 10 ^ 18 = pow-le-pow_right {n = 10} (omega arith) {i = length last} {j = 18} (omega (arith, size, few)) in
          sym (ap (λ k. k % 10 ^ 18) same ∙ mod-eq_of_lt (omega (arith, small, bound)))
    ]

-- the operands of the digits before a point and of those after it: of the last eighteen, and the first eighteen
pub operands_spelled : (integer fraction : List ℕ) → AreFewDigits integer fraction
    → operands_shown (spelled (drop (length integer - 18) integer)) (length (take 18 fraction)) (spelled (take 18 fraction)) 0 ≡ operands_of (plain_number integer fraction) 0
operands_spelled integer fraction h =
    let shown : List ℕ = take 18 fraction in
    let rest : List ℕ = drop 18 fraction in
    let v : ℕ = length shown in
    let r : ℕ = length rest in
    let f : ℕ = length fraction in
    let few_below = h.few_below in
    let size : v ≡ min 18 f = length-take 18 fraction in
    let size_rest : r ≡ f - 18 = length-drop 18 fraction in
    let all : v + r ≡ f = omega (arith, size, size_rest) in
    let whole = spelled integer in
    let part = spelled shown in
    let tail = spelled rest in
    let digits = digits_told fraction h.part in
    let p : part < 10 ^ v = digits_value-lt 10 shown (digits_take 18 fraction digits) in
    let t : tail < 10 ^ r = digits_value-lt 10 rest (digits_drop 18 fraction digits) in
    let few : v + r ≤ 32768 = omega (arith, all, few_below) in
    let shift : 32768 + 0 - (f + 0) ≡ 32768 - (v + r) = omega (arith, all) in
    let split : spelled fraction ≡ part * 10 ^ r + tail = ap spelled (sym (take-append-drop 18 fraction)) ∙ spelled_joined shown rest in
    let power : 10 ^ f ≡ 10 ^ v * 10 ^ r = ap (λ e. 10 ^ e) (sym all) ∙ pow-add 10 v r in
    let spells : spelled (integer ++ fraction) ≡ (whole * 10 ^ v + part) * 10 ^ r + tail
    = spelled_joined integer fraction ∙ ap (λ k. whole * k + spelled fraction) power ∙ ap (λ k. whole * (10 ^ v * 10 ^ r) + k) split ∙ moved whole (10 ^ v) (10 ^ r) part tail in
    let count : ((whole * 10 ^ v + part) * 10 ^ r + tail) * 10 ^ (32768 - (v + r)) ≡ (plain_number integer fraction).count
    = ap (λ n. n * 10 ^ (32768 - (v + r))) (sym spells) ∙ ap (λ e. spelled (integer ++ fraction) * 10 ^ e) (sym shift) in
    let low : (plain_number integer fraction).low ≡ 32768 - f = omega (arith, few_below) in
    operands_are 32768 (plain_number integer fraction).count (plain_number integer fraction).low 0 f v (spelled (drop (length integer - 18) integer)) part (omega (arith, low, few_below)) (omega arith) (omega (arith, size))
    (last_is integer (digits_told integer h.whole) ∙ sym (whole_is 32768 whole part tail v r p t few) ∙ ap (λ n. part_of n 32768 18) count)
    (sym (part_is 32768 whole part tail v r p t few) ∙ ap (λ n. part_of n (32768 - v) v) count)
