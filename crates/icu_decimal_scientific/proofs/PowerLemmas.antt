-- Powers of ten: what is cancelled, the first digit of a count, and ranges that hold it.
use Rattle.std.proofs.Common.{◌≡◌, ℕ, zero, suc, ◌+◌, ◌*◌, ◌/◌, ◌%◌, ◌^◌, ◌<◌, ◌≤◌, refl, sym, ap, ◌∙◌, subst, arith, ⊎_elim}
use Rattle.std.proofs.Math.Nat.{div-add-mod', mod-eq_of_lt, mod-lt, mul-le-mul_right, mul-lt-mul_of_pos_right, zero-mul}
use Rattle.std.proofs.lemmas.Bool.{cases_lt}
use Rattle.fixed_decimal.specs.Number.{digit}
use Rattle.fixed_decimal.specs.NonzeroPlaces.{IsFirstPlace}
use Rattle.fixed_decimal.specs.Range.{IsHighest, IsLowest}
use Rattle.fixed_decimal.proofs.TenLemmas.{digit_above, tens_apart, tens_positive, tens_split}

-- ---- cancelled

pub cancel_le : (a b t : ℕ) → 0 < t → a * t ≤ b * t → a ≤ b
cancel_le a b t p h = ⊎_elim (λ l. let m = mul-lt-mul_of_pos_right {m = b} {n = a} l p in absurd (omega arith)) (λ l. l) (cases_lt b a)

pub cancel_lt : (a b t : ℕ) → a * t < b * t → a < b
cancel_lt a b t h = ⊎_elim (λ l. l) (λ l. let m = mul-le-mul_right {m = b} {n = a} t l in absurd (omega arith)) (cases_lt a b)

pub cancel_same : (a b t : ℕ) → 0 < t → a * t ≡ b * t → a ≡ b
cancel_same a b t p h = let l = cancel_le a b t p (omega arith) in let k = cancel_le b a t p (omega arith) in omega arith

pub cancel_zero : (a t : ℕ) → 0 < t → a * t ≡ 0 → a ≡ 0
cancel_zero a t p h = cancel_same a 0 t p (h ∙ sym (zero-mul t))

pub powers_lt : (i j : ℕ) → 10 ^ i < 10 ^ j → i < j
powers_lt i j h = ⊎_elim (λ l. l) (λ l. let m = tens_apart j i l in absurd (omega arith)) (cases_lt i j)

pub lt_through : (n a b : ℕ) → n < a → a ≤ b → n < b
lt_through n a b h k = omega arith

pub le_through : (a b n : ℕ) → a ≤ b → b ≤ n → a ≤ n
le_through a b n l h = omega arith

pub reached : (a n b : ℕ) → a ≤ n → n < b → a < b
reached a n b l h = omega arith

-- ---- the first digit

pub record IsTop (n p : ℕ) : Type 0 where
  pub reaches : 10 ^ p ≤ n
  pub below : n < 10 ^ (p + 1)

top_digit : (n p : ℕ) → IsTop n p → 0 < digit n p
top_digit n p t =
    let d = div-add-mod' n (10 ^ p) in
    let r = mod-lt n (tens_positive p) in
    let s = tens_split p 1 (p + 1) refl in
    let reaches = t.reaches in
    let below = t.below in
    let some : 0 < n / 10 ^ p = ⊎_elim (λ z. let none : n / 10 ^ p ≡ 0 = omega arith in let m : n / 10 ^ p * 10 ^ p ≡ 0 = ap (λ x. x * 10 ^ p) none ∙ zero-mul (10 ^ p) in absurd (omega arith)) (λ l. omega arith) (cases_lt (n / 10 ^ p) 1) in
    let few : n / 10 ^ p < 10 = ⊎_elim (λ l. l) (λ l. let m = mul-le-mul_right {m = 10} {n = n / 10 ^ p} (10 ^ p) l in absurd (omega arith)) (cases_lt (n / 10 ^ p) 10) in
    let e : n / 10 ^ p % 10 ≡ n / 10 ^ p = mod-eq_of_lt few in
    omega arith

pub record HasFirst (n : ℕ) : Type 0 where
  pub place : ℕ
  pub first : IsFirstPlace n place
  pub top : IsTop n place

pub first_at : (n k : ℕ) → IsTop n k → IsFirstPlace n k
first_at n k t = record {
  nonzero = top_digit n k t;
  highest = λ other some. ⊎_elim (λ l. let z = digit_above n (k + 1) other t.below (omega arith) in absurd (omega arith)) (λ l. l) (cases_lt k other);
}

pub has_first : (k n : ℕ) → 0 < n → n < 10 ^ k → HasFirst n
has_first zero n p l = absurd (omega arith)
has_first (suc k) n p l =
    ⊎_elim (λ below. has_first k n p below)
    (λ reach. let t : IsTop n k = record { reaches = reach; below = subst (λ j. n < 10 ^ j) (omega arith) l } in record { place = k; first = first_at n k t; top = t })
    (cases_lt n (10 ^ k))

pub same_first : (n p q : ℕ) → IsFirstPlace n p → IsFirstPlace n q → p ≡ q
same_first n p q f g = let a = f.highest q g.nonzero in let b = g.highest p f.nonzero in omega arith

none_of_zero : (p : ℕ) → digit 0 p ≡ 0
none_of_zero p = grind arith

pub no_first : (n p : ℕ) → n ≡ 0 → IsFirstPlace n p → ⊥
no_first n p z f = let d : digit n p ≡ 0 = ap (λ k. digit k p) z ∙ none_of_zero p in let some = f.nonzero in absurd (omega arith)

pub top_of : (k n p : ℕ) → n < 10 ^ k → IsFirstPlace n p → IsTop n p
top_of k n p l f =
    ⊎_elim (λ z. absurd (no_first n p (omega arith) f))
    (λ some. let h = has_first k n (omega arith) l in subst (IsTop n) (same_first n h.place p h.first f) h.top)
    (cases_lt n 1)

-- ---- two counts, of which one is the other times powers of ten

pub reaches_scaled : (n s p a b o : ℕ) → IsTop n p → s * 10 ^ a ≡ n * 10 ^ b → o + a ≤ p + b → 10 ^ o ≤ s
reaches_scaled n s p a b o t e l =
    let up = tens_apart (o + a) (p + b) l in
    let one = tens_split o a (o + a) refl in
    let two = tens_split p b (p + b) refl in
    let m = mul-le-mul_right {m = 10 ^ p} {n = n} (10 ^ b) t.reaches in
    cancel_le (10 ^ o) s (10 ^ a) (tens_positive a) (omega arith)

pub below_scaled : (n s p a b o : ℕ) → IsTop n p → s * 10 ^ a ≡ n * 10 ^ b → p + b < o + a → s < 10 ^ o
below_scaled n s p a b o t e l =
    let up = tens_apart (p + 1 + b) (o + a) (omega arith) in
    let one = tens_split o a (o + a) refl in
    let two = tens_split (p + 1) b (p + 1 + b) refl in
    let m = mul-lt-mul_of_pos_right {m = n} {n = 10 ^ (p + 1)} t.below (tens_positive b) in
    cancel_lt s (10 ^ o) (10 ^ a) (omega arith)

pub above_place : (n s p a b o : ℕ) → IsTop n p → s * 10 ^ a ≡ n * 10 ^ b → 10 ^ o ≤ s → o + a ≤ p + b
above_place n s p a b o t e l =
    let one = tens_split o a (o + a) refl in
    let two = tens_split (p + 1) b (p + 1 + b) refl in
    let m = mul-lt-mul_of_pos_right {m = n} {n = 10 ^ (p + 1)} t.below (tens_positive b) in
    let k = mul-le-mul_right {m = 10 ^ o} {n = s} (10 ^ a) l in
    let less = powers_lt (o + a) (p + 1 + b) (omega arith) in
    omega arith

pub under_place : (n s p a b o : ℕ) → IsTop n p → s * 10 ^ a ≡ n * 10 ^ b → s < 10 ^ o → p + b < o + a
under_place n s p a b o t e l =
    let one = tens_split o a (o + a) refl in
    let two = tens_split p b (p + b) refl in
    let m = mul-le-mul_right {m = 10 ^ p} {n = n} (10 ^ b) t.reaches in
    let k = mul-lt-mul_of_pos_right {m = s} {n = 10 ^ o} l (tens_positive a) in
    powers_lt (p + b) (o + a) (omega arith)

-- ---- ranges

pub same_low : (most n a b : ℕ) → IsLowest most n a → IsLowest most n b → a ≡ b
same_low most n a b f g = let l = f.highest b g.under g.whole in let k = g.highest a f.under f.whole in omega arith

pub same_high : (least n a b : ℕ) → IsHighest least 0 n a → IsHighest least 0 n b → a ≡ b
same_high least n a b f g = let l = f.lowest b g.keeps (omega arith) g.holds in let k = g.lowest a f.keeps (omega arith) f.holds in omega arith

pub few_high : (least n high k : ℕ) → IsHighest least 0 n high → least ≤ k → n < 10 ^ (k + 1) → high ≤ k
few_high least n high k h l b = h.lowest k l (omega arith) b
