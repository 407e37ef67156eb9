-- The decimal that a significand and an exponent are, and the shifts by which it is found.
use Rattle.std.proofs.Common.{◌≡◌, ℕ, ℤ, ◌+◌, ◌-◌, ◌*◌, ◌/◌, ◌%◌, ◌^◌, ◌<◌, ◌≤◌, min, max, refl, sym, ap, ◌∙◌, subst, arith, ⊎_elim}
use Rattle.std.proofs.Math.Nat.{div-add-mod', mod-eq_of_lt, mul-lt-mul_of_pos_right, mul-mod_left, mul_assoc, zero-mul}
use Rattle.std.proofs.lemmas.Bool.{cases_lt}
use Rattle.fixed_decimal.specs.Number.{IsNumber, Number}
use Rattle.fixed_decimal.specs.Range.{IsLowest}
use Rattle.fixed_decimal.specs.Shifts.{IsShifted, PadsEnd, Shifts, TrimsEnd, fall, rise}
use Rattle.fixed_decimal.proofs.TenLemmas.{mod_below_power, tens_apart, tens_positive, tens_split}
use Rattle.icu_decimal_scientific.specs.NotationLaws.{OneProduct}
use Rattle.icu_decimal_scientific.specs.Product.{HasProduct}
use Rattle.icu_decimal_scientific.specs.Steps.{IsLowered, IsRaised}
use Rattle.icu_decimal_scientific.proofs.DivisionLemmas.{shifted_down, shifted_up, whole_below}
use Rattle.icu_decimal_scientific.proofs.PowerLemmas.{cancel_lt, cancel_same, cancel_zero}

-- ---- steps

-- a number without zeros at its end, and without a digit below a place, shows none below it
pub trimmed_low : (old new : Number) (by : ℕ) → TrimsEnd old new → old.count % 10 ^ by ≡ 0 → by < 32769 → by ≤ new.low
trimmed_low old new by t whole small = t.low.highest by (omega (arith, small)) whole

module _ (by : ℤ) (old new : Number) (n : ℕ) (s : Shifts by old new) (f : fall by ≡ n) (r : rise by ≡ 0) (low : n ≤ old.low) (is : IsNumber old) where
  down : IsShifted by old new
  down = let high = is.high in s.within (record { low = omega arith; high = omega arith })

  down_low : new.low ≡ old.low - n
  down_low = let is_low = down.low in let under = is.low in omega arith

  down_high : new.high ≡ max 32768 (old.high - n)
  down_high = let is_high = down.high in omega arith

module _ (by : ℤ) (old new : Number) (n : ℕ) (s : Shifts by old new) (f : fall by ≡ 0) (r : rise by ≡ n) (room : old.high + n < 65536) (is : IsNumber old) where
  up : IsShifted by old new
  up = s.within (record { low = omega arith; high = omega arith })

  up_low : new.low ≡ min 32768 (old.low + n)
  up_low = let is_low = up.low in omega arith

  up_high : new.high ≡ old.high + n
  up_high = let is_high = up.high in let ones = is.ones in omega arith

pub is_lowered : (by : ℤ) (old new : Number) (n : ℕ) → IsNumber old → Shifts by old new → fall by ≡ n → rise by ≡ 0 → n ≤ old.low → IsLowered n old new
is_lowered by old new n is s f r low = record {
  count = shifted_down by old new n s f r low is.high;
  low = down_low by old new n s f r low is;
  high = down_high by old new n s f r low is;
}

pub is_raised : (by : ℤ) (old new : Number) (n : ℕ) → IsNumber old → Shifts by old new → fall by ≡ 0 → rise by ≡ n → old.high + n < 65536 → IsRaised n old new
is_raised by old new n is s f r room = record {
  count = shifted_up by old new n s f r room;
  low = up_low by old new n s f r room is;
  high = up_high by old new n s f r room is;
}

-- what is left after a first part of the way
pub rest_whole : (n m a b : ℕ) → m * 10 ^ a ≡ n → n % 10 ^ b ≡ 0 → a ≤ b → m % 10 ^ (b - a) ≡ 0
rest_whole n m a b e w l =
    let d : n / 10 ^ b * 10 ^ b ≡ n = let parts = div-add-mod' n (10 ^ b) in omega arith in
    let s : 10 ^ b ≡ 10 ^ (b - a) * 10 ^ a = tens_split (b - a) a b (omega arith) in
    let whole : m * 10 ^ a ≡ n / 10 ^ b * 10 ^ (b - a) * 10 ^ a = e ∙ sym d ∙ ap (λ t. n / 10 ^ b * t) s ∙ sym (mul_assoc (n / 10 ^ b) (10 ^ (b - a)) (10 ^ a)) in
    ap (λ k. k % 10 ^ (b - a)) (cancel_same m (n / 10 ^ b * 10 ^ (b - a)) (10 ^ a) (tens_positive a) whole) ∙ mul-mod_left (n / 10 ^ b) (10 ^ (b - a))

pub both_steps : (n a b i j by : ℕ) → a * 10 ^ i ≡ n → b * 10 ^ j ≡ a → i + j ≡ by → b * 10 ^ by ≡ n
both_steps n a b i j by e f s =
    ap (λ t. b * t) (tens_split j i by (omega arith)) ∙ sym (mul_assoc b (10 ^ j) (10 ^ i)) ∙ ap (λ t. t * 10 ^ i) f ∙ e

-- a number that is divided in two steps without the zeros at its end, which are then shown as far as there are places
lowest_shown : (place n low : ℕ) → IsLowest place n low → n % 10 ^ place ≡ 0 → low ≡ place
lowest_shown place n low l whole = let at = l.highest place (omega arith) whole in let under = l.under in omega arith

whole_after : (n m by low : ℕ) → m * 10 ^ by ≡ n → n % 10 ^ low ≡ 0 → m % 10 ^ (low - by) ≡ 0
whole_after n m by low e w =
    ⊎_elim (λ below. let none : low - by ≡ 0 = omega arith in ap (λ k. m % 10 ^ k) none ∙ by_one m) (λ above. rest_whole n m by low e w above) (cases_lt low by)
  where
    by_one : (n : ℕ) → n % 10 ^ 0 ≡ 0
    by_one n = omega arith

pub lowered_shown : (old a b new : Number) (half by : ℕ) → IsNumber old → half ≤ by → a.count * 10 ^ half ≡ old.count → a.high ≡ max 32768 (old.high - half) → b.count * 10 ^ (by - half) ≡ a.count
    → b.high ≡ max 32768 (a.high - (by - half)) → (at : ℕ) → PadsEnd at b new → at ≡ old.low - by → IsLowered by old new
lowered_shown old a b new half by is part first first_high second second_high at padded same_place =
    let pads : PadsEnd (old.low - by) b new = subst (λ k. PadsEnd k b new) same_place padded in
    let count : b.count * 10 ^ by ≡ old.count = both_steps old.count a.count b.count half (by - half) by first second (omega arith) in
    record {
      count = ap (λ k. k * 10 ^ by) pads.count ∙ count;
      low = lowest_shown (old.low - by) b.count new.low (pads.low (let low = is.low in omega arith)) (whole_after old.count b.count by old.low count is.whole);
      high = let same = pads.high in let ones = is.ones in omega arith;
    }

-- ---- which products are decimals

pub room_of : (e : ℤ) (n : Number) → HasProduct e n → fall e ≡ 0 → n.high + rise e < 65536
room_of e n p f = let high = p.is.high in let small = p.number.high in omega arith

pub whole_of : (e : ℤ) (n : Number) → HasProduct e n → rise e ≡ 0 → n.count % 10 ^ fall e ≡ 0
whole_of e n p r =
    let one : n.count * 10 ^ rise e ≡ n.count = ap (λ k. n.count * 10 ^ k) r ∙ unit n.count in
    ap (λ k. k % 10 ^ fall e) (sym one ∙ sym p.is.count) ∙ mul-mod_left p.product.count (10 ^ fall e)
  where
    unit : (n : ℕ) → n * 10 ^ 0 ≡ n
    unit n = omega arith

module _ (e : ℤ) (n : Number) (is : IsNumber n) where
  parts : n.count / 10 ^ n.low * 10 ^ n.low ≡ n.count
  parts = let p = div-add-mod' n.count (10 ^ n.low) in let w = is.whole in omega arith

  pub product_up : fall e ≡ 0 → n.high + rise e < 65536 → HasProduct e n
  product_up f room = record {
    product = record { count = n.count * 10 ^ rise e; low = min 32768 (n.low + rise e - fall e); high = max 32768 (n.high + rise e - fall e) };
    number = record {
      low = omega arith;
      ones = omega arith;
      high = omega arith;
      whole = ap (λ k. k % 10 ^ min 32768 (n.low + rise e - fall e)) counted ∙ mod_below_power (n.count / 10 ^ n.low) (n.low + rise e) (min 32768 (n.low + rise e - fall e)) (omega arith);
      below = subst (λ k. n.count * 10 ^ rise e < 10 ^ k) placed (subst (λ t. n.count * 10 ^ rise e < t) (sym (tens_split (n.high + 1) (rise e) (n.high + 1 + rise e) refl)) (mul-lt-mul_of_pos_right {m = n.count} {n = 10 ^ (n.high + 1)} is.below (tens_positive (rise e))));
    };
    is = record { count = ap (λ k. n.count * 10 ^ rise e * 10 ^ k) f ∙ unit (n.count * 10 ^ rise e); low = refl; high = refl };
  }
    where
      unit : (n : ℕ) → n * 10 ^ 0 ≡ n
      unit n = omega arith

      counted : n.count * 10 ^ rise e ≡ n.count / 10 ^ n.low * 10 ^ (n.low + rise e)
      counted = ap (λ k. k * 10 ^ rise e) (sym parts) ∙ mul_assoc (n.count / 10 ^ n.low) (10 ^ n.low) (10 ^ rise e) ∙ ap (λ t. n.count / 10 ^ n.low * t) (sym (tens_split n.low (rise e) (n.low + rise e) refl))

      placed : n.high + 1 + rise e ≡ max 32768 (n.high + rise e - fall e) + 1
      placed = let ones = is.ones in omega (arith, f, ones)

  pub product_down : rise e ≡ 0 → n.count % 10 ^ fall e ≡ 0 → HasProduct e n
  product_down r whole = record {
    product = record { count = n.count / 10 ^ fall e; low = min 32768 (n.low + rise e - fall e); high = max 32768 (n.high + rise e - fall e) };
    number = record {
      low = omega arith;
      ones = omega arith;
      high = let high = is.high in omega (arith, r, high);
      whole = ⊎_elim above under (cases_lt n.low (fall e));
      below = cancel_lt (n.count / 10 ^ fall e) (10 ^ (max 32768 (n.high + rise e - fall e) + 1)) (10 ^ fall e) below;
    };
    is = record { count = quotient ∙ sym (ap (λ k. n.count * 10 ^ k) r ∙ unit n.count); low = refl; high = refl };
  }
    where
      unit : (n : ℕ) → n * 10 ^ 0 ≡ n
      unit n = omega arith

      quotient : n.count / 10 ^ fall e * 10 ^ fall e ≡ n.count
      quotient = let p = div-add-mod' n.count (10 ^ fall e) in omega (arith, p, whole)

      by_one : (n : ℕ) → n % 10 ^ 0 ≡ 0
      by_one n = omega arith

      above : n.low < fall e → n.count / 10 ^ fall e % 10 ^ min 32768 (n.low + rise e - fall e) ≡ 0
      above l = ap (λ k. n.count / 10 ^ fall e % 10 ^ k) (let z : min 32768 (n.low + rise e - fall e) ≡ 0 = omega (arith, r, l) in z) ∙ by_one (n.count / 10 ^ fall e)

      under : fall e ≤ n.low → n.count / 10 ^ fall e % 10 ^ min 32768 (n.low + rise e - fall e) ≡ 0
      under l =
          let at : min 32768 (n.low + rise e - fall e) ≡ n.low - fall e = let low = is.low in omega (arith, r, l, low) in
          ap (λ k. n.count / 10 ^ fall e % 10 ^ k) at ∙ rest_whole n.count (n.count / 10 ^ fall e) (fall e) n.low quotient is.whole l

      below : n.count / 10 ^ fall e * 10 ^ fall e < 10 ^ (max 32768 (n.high + rise e - fall e) + 1) * 10 ^ fall e
      below =
          let up = tens_apart (n.high + 1) (max 32768 (n.high + rise e - fall e) + 1 + fall e) (omega (arith, r)) in
          let s = tens_split (max 32768 (n.high + rise e - fall e) + 1) (fall e) (max 32768 (n.high + rise e - fall e) + 1 + fall e) refl in
          let b = is.below in
          let q = quotient in
          omega (arith, up, s, b, q)

-- ---- what is made of a number

pub made_up : (e : ℤ) (old new : Number) (by : ℕ) → IsNumber old → fall e ≡ 0 → by ≡ rise e → IsRaised by old new → IsShifted e old new
made_up e old new by is f same raised =
    let ones = is.ones in
    let low = raised.low in
    let high = raised.high in
    record {
      count = ap (λ k. new.count * 10 ^ k) f ∙ unit new.count ∙ raised.count ∙ ap (λ k. old.count * 10 ^ k) same;
      low = omega (arith, low, same, f);
      high = omega (arith, high, same, f, ones);
    }
  where
    unit : (n : ℕ) → n * 10 ^ 0 ≡ n
    unit n = omega arith

-- a count without a digit below a place that is above all of them is zero
far_zero : (n high f : ℕ) → n < 10 ^ (high + 1) → high < 65536 → 65535 < f → n % 10 ^ f ≡ 0 → n ≡ 0
far_zero n high f below small far whole =
    let up = tens_apart (high + 1) f (omega arith) in
    let less : n < 10 ^ f = omega arith in
    sym (mod-eq_of_lt less) ∙ whole

pub made_down : (e : ℤ) (old new : Number) (by : ℕ) → IsNumber old → HasProduct e old → rise e ≡ 0 → by ≡ min (fall e) 65535 → IsLowered by old new → IsShifted e old new
made_down e old new by is p r at lowered = record {
  count = ⊎_elim near far (cases_lt (fall e) 65536) ∙ sym (ap (λ k. old.count * 10 ^ k) r ∙ unit old.count);
  low = let under = is.low in let low = lowered.low in omega (arith, low, at, r, under);
  high = let small = is.high in let high = lowered.high in omega (arith, high, at, r, small);
}
  where
    unit : (n : ℕ) → n * 10 ^ 0 ≡ n
    unit n = omega arith

    near : fall e < 65536 → new.count * 10 ^ fall e ≡ old.count
    near l = let same : fall e ≡ by = omega (arith, at, r, l) in ap (λ k. new.count * 10 ^ k) same ∙ lowered.count

    far : 65536 ≤ fall e → new.count * 10 ^ fall e ≡ old.count
    far l =
        let none : old.count ≡ 0 = far_zero old.count old.high (fall e) is.below is.high (omega (arith, l)) (whole_of e old p r) in
        let same : new.count ≡ 0 = cancel_zero new.count (10 ^ by) (tens_positive by) (lowered.count ∙ none) in
        ap (λ k. k * 10 ^ fall e) same ∙ zero-mul (10 ^ fall e) ∙ sym none

pub whole_by : (e : ℤ) (n : Number) (by : ℕ) → HasProduct e n → rise e ≡ 0 → by ≡ min (fall e) 65535 → n.count % 10 ^ by ≡ 0
whole_by e n by p r at = whole_below n.count (fall e) by (whole_of e n p r) (omega (arith, at, r))

-- ---- one product

pub one_product : OneProduct
one_product e s a b f g =
    let count : a.count ≡ b.count = cancel_same a.count b.count (10 ^ fall e) (tens_positive (fall e)) (f.count ∙ sym g.count) in
    let low : a.low ≡ b.low = f.low ∙ sym g.low in
    let high : a.high ≡ b.high = f.high ∙ sym g.high in
    λ i. record { count = count i; low = low i; high = high i }
