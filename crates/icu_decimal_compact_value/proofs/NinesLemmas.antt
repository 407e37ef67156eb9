-- A number is rounded up to the next power of ten exactly where its digits down to the unit are all 9, and the next one is at least 5.
use Rattle.std.proofs.Common.{◌≡◌, ℕ, zero, suc, ◌+◌, ◌-◌, ◌*◌, ◌/◌, ◌%◌, ◌^◌, ◌<◌, ◌≤◌, sym, ap, ◌∙◌, arith}
use Rattle.std.proofs.Math.Nat.{div-add-mod', mul-add-div_right, div-div-eq-div-mul, mod-lt, mul-le-mul_right}
use Rattle.std.proofs.lemmas.Nat.{pow-add}
use Rattle.fixed_decimal.specs.Number.{digit}
use Rattle.fixed_decimal.proofs.TenLemmas.{tens_positive}
use Rattle.icu_decimal_compact_value.specs.ShownValue.{even_count}
use Rattle.icu_decimal_compact_value.specs.Steps.{IsNines}
use Rattle.icu_decimal_compact_value.proofs.RoundingLemmas.{CountedBy, under, over, tie, counted}
use Rattle.icu_decimal_compact_value.proofs.ShowLemmas.{cancel_less, cancel_same}

divided_twice : (n i : ℕ) → n / 10 ^ suc i ≡ n / 10 / 10 ^ i
divided_twice n i = ap (λ t. n / t) (let e : 10 ^ suc i ≡ 10 * 10 ^ i = omega arith in e) ∙ sym (div-div-eq-div-mul n 10 (10 ^ i))

-- each digit of ten to d less one is 9
nine_at : (d i m : ℕ) → i < d → m + 1 ≡ 10 ^ d → m / 10 ^ i % 10 ≡ 9
nine_at zero i m l e = absurd (omega arith)
nine_at (suc d) zero m l e = let one : m / 1 ≡ m = omega arith in ap (λ x. x % 10) one ∙ omega arith
nine_at (suc d) (suc i) m l e = ap (λ x. x % 10) (divided_twice m i) ∙ nine_at d i (m / 10) (omega arith) (omega arith)

-- and only that number has these digits
nines_make : (d q : ℕ) → q < 10 ^ d → ((i : ℕ) → i < d → q / 10 ^ i % 10 ≡ 9) → q + 1 ≡ 10 ^ d
nines_make zero q l h = omega arith
nines_make (suc d) q l h =
    let last : q / 1 % 10 ≡ 9 = h 0 (omega arith) in
    let ih : q / 10 + 1 ≡ 10 ^ d = nines_make d (q / 10) (omega arith) (λ i k. ap (λ x. x % 10) (sym (divided_twice q i)) ∙ h (suc i) (omega arith)) in
    omega arith

module _ (p k n : ℕ) (some : 1 ≤ p) (le : p ≤ k) (small : n < 10 ^ suc k) where
  unit_split : 10 ^ p ≡ 10 * 10 ^ (p - 1)
  unit_split = let e : p ≡ suc (p - 1) = omega arith in let t : 10 ^ suc (p - 1) ≡ 10 * 10 ^ (p - 1) = omega arith in ap (λ x. 10 ^ x) e ∙ t

  top_split : 10 ^ suc k ≡ 10 ^ (suc k - p) * 10 ^ p
  top_split = let e : suc k ≡ (suc k - p) + p = omega arith in ap (λ x. 10 ^ x) e ∙ pow-add 10 (suc k - p) p

  whole : n / 10 ^ p * 10 ^ p + n % 10 ^ p ≡ n
  whole = div-add-mod' n (10 ^ p)

  rest : n % 10 ^ p < 10 ^ p
  rest = mod-lt n (tens_positive p)

  quotient_below : n / 10 ^ p < 10 ^ (suc k - p)
  quotient_below = let t = top_split in let w = whole in cancel_less (n / 10 ^ p) (10 ^ (suc k - p)) (10 ^ p) (omega arith)

  next_digit : digit n (p - 1) ≡ n % 10 ^ p / 10 ^ (p - 1)
  next_digit =
      let pos = tens_positive (p - 1) in
      let small : n % 10 ^ p / 10 ^ (p - 1) < 10 =
      let d = div-add-mod' (n % 10 ^ p) (10 ^ (p - 1)) in
      let s = unit_split in
      let r = rest in
      cancel_less (n % 10 ^ p / 10 ^ (p - 1)) 10 (10 ^ (p - 1)) (omega arith) in
      let join : n / 10 ^ (p - 1) ≡ n / 10 ^ p * 10 + n % 10 ^ p / 10 ^ (p - 1) =
      ap (λ x. x / 10 ^ (p - 1)) (sym whole ∙ ap (λ u. n / 10 ^ p * u + n % 10 ^ p) unit_split ∙ regroup (n / 10 ^ p) (10 ^ (p - 1)) (n % 10 ^ p)) ∙ quotient (n / 10 ^ p * 10) (10 ^ (p - 1)) (n % 10 ^ p) pos in
      ap (λ x. x % 10) join ∙ omega arith
    where
      regroup : (a t b : ℕ) → a * (10 * t) + b ≡ a * 10 * t + b
      regroup a t b = omega arith

      quotient : (a t b : ℕ) → 0 < t → (a * t + b) / t ≡ a + b / t
      quotient a t b h = mul-add-div_right {m = t} h a b

  five : 10 ^ p ≤ 2 * (n % 10 ^ p) → 5 ≤ digit n (p - 1)
  five h =
      let d = div-add-mod' (n % 10 ^ p) (10 ^ (p - 1)) in
      let m = mod-lt (n % 10 ^ p) (tens_positive (p - 1)) in
      let s = unit_split in
      let e = next_digit in
      let f : 4 < n % 10 ^ p / 10 ^ (p - 1) = cancel_less 4 (n % 10 ^ p / 10 ^ (p - 1)) (10 ^ (p - 1)) (omega arith) in
      omega arith

  half_from : 5 ≤ digit n (p - 1) → 10 ^ p ≤ 2 * (n % 10 ^ p)
  half_from h =
      let d = div-add-mod' (n % 10 ^ p) (10 ^ (p - 1)) in
      let s = unit_split in
      let e = next_digit in
      let m = mul-le-mul_right {m = 5} {n = n % 10 ^ p / 10 ^ (p - 1)} (10 ^ (p - 1)) (omega arith) in
      omega arith

  digit_of_quotient : (i : ℕ) → n / 10 ^ p / 10 ^ i ≡ n / 10 ^ (p + i)
  digit_of_quotient i = div-div-eq-div-mul n (10 ^ p) (10 ^ i) ∙ ap (λ t. n / t) (sym (pow-add 10 p i))

  odd_below : n / 10 ^ p + 1 ≡ 10 ^ (suc k - p) → n / 10 ^ p % 2 ≡ 1
  odd_below e =
      let s : suc k - p ≡ suc (k - p) = omega arith in
      let t : 10 ^ (suc k - p) ≡ 10 ^ suc (k - p) = ap (λ x. 10 ^ x) s in
      omega arith

  raised_by : (count : ℕ) → CountedBy (10 ^ p) (n / 10 ^ p) (n % 10 ^ p) count → count ≡ 10 ^ (suc k - p) → (n / 10 ^ p + 1 ≡ 10 ^ (suc k - p)) × (10 ^ p ≤ 2 * (n % 10 ^ p))
  raised_by count (under l e) c = let b = quotient_below in absurd (omega arith)
  raised_by count (over l e) c = (omega arith, omega arith)
  raised_by count (tie t e) c = let b = quotient_below in (omega arith, omega arith)

  nines_by : (count : ℕ) → CountedBy (10 ^ p) (n / 10 ^ p) (n % 10 ^ p) count → n / 10 ^ p + 1 ≡ 10 ^ (suc k - p) → 10 ^ p ≤ 2 * (n % 10 ^ p) → count ≡ 10 ^ (suc k - p)
  nines_by count (under l e) q h = absurd (omega arith)
  nines_by count (over l e) q h = omega arith
  nines_by count (tie t e) q h = let o = odd_below q in omega arith

  pub nines_of_power : even_count (10 ^ p) n * 10 ^ p ≡ 10 ^ suc k → IsNines p k n
  nines_of_power v =
      let count : even_count (10 ^ p) n ≡ 10 ^ (suc k - p) = cancel_same (even_count (10 ^ p) n) (10 ^ (suc k - p)) (10 ^ p) (tens_positive p) (v ∙ top_split) in
      let r = raised_by (even_count (10 ^ p) n) (counted (10 ^ p) n) count in
      record {
        nines = λ j a b. let e : p + (j - p) ≡ j = omega arith in ap (λ x. n / 10 ^ x % 10) (sym e) ∙ ap (λ x. x % 10) (sym (digit_of_quotient (j - p))) ∙ nine_at (suc k - p) (j - p) (n / 10 ^ p) (omega arith) r.0;
        below = five r.1;
      }

  pub power_of_nines : IsNines p k n → even_count (10 ^ p) n * 10 ^ p ≡ 10 ^ suc k
  power_of_nines h =
      let q : n / 10 ^ p + 1 ≡ 10 ^ (suc k - p) = nines_make (suc k - p) (n / 10 ^ p) quotient_below (λ i l. ap (λ x. x % 10) (digit_of_quotient i) ∙ h.nines (p + i) (omega arith) (omega arith)) in
      ap (λ c. c * 10 ^ p) (nines_by (even_count (10 ^ p) n) (counted (10 ^ p) n) q (half_from h.below)) ∙ sym top_split
