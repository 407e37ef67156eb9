-- Rounding half to even has one result, that of the quotient; it stays between the powers of ten around the number.
use Rattle.std.proofs.Common.{◌≡◌, ℕ, suc, ◌+◌, ◌-◌, ◌*◌, ◌/◌, ◌%◌, ◌^◌, ◌<◌, ◌≤◌, ◌⊎◌, Bool, true, false, cond, nat_lt, refl, sym, ap, ◌∙◌, arith, inl, inr, ⊎_elim}
use Rattle.std.proofs.Math.Nat.{mul-le-mul_right, div-add-mod', mod-lt}
use Rattle.std.proofs.lemmas.Bool.{cases_lt}
use Rattle.std.proofs.lemmas.Bool.Decides.{nat_tests}
use Rattle.std.proofs.lemmas.Nat.{pow-add}
use Rattle.fixed_decimal.specs.Rounding.{IsMultiple, IsNearest, distance}
use Rattle.fixed_decimal.proofs.RoundingLemmas.{sides, upper_count}
use Rattle.icu_decimal_compact_value.specs.ShownValue.{even_count}

-- the three ways in which the rest is to half a unit, with the count taken
pub data CountedBy (u q r count : ℕ) : Type 0 where
  under : 2 * r < u → count ≡ q → CountedBy u q r count
  over : u < 2 * r → count ≡ q + 1 → CountedBy u q r count
  tie : 2 * r ≡ u → count ≡ q + q % 2 → CountedBy u q r count

counted_at : (u q r : ℕ) → CountedBy u q r (q + cond (nat_lt (2 * r) u) 0 (cond (nat_lt u (2 * r)) 1 (q % 2)))
counted_at u q r = go (nat_lt (2 * r) u) (nat_lt u (2 * r)) refl refl
  where
    go : (a b : Bool) → nat_lt (2 * r) u ≡ a → nat_lt u (2 * r) ≡ b → CountedBy u q r (q + cond a 0 (cond b 1 (q % 2)))
    go true b e f = under (grind (arith, nat_tests, e)) (omega arith)
    go false true e f = over (grind (arith, nat_tests, f)) refl
    go false false e f = tie (let h : u ≤ 2 * r = grind (arith, nat_tests, e) in let k : 2 * r ≤ u = grind (arith, nat_tests, f) in omega arith) refl

pub counted : (u n : ℕ) → CountedBy u (n / u) (n % u) (even_count u n)
counted u n = counted_at u (n / u) (n % u)

-- a value that is as near as the limits around a number is between them
pub between : (n v low high : ℕ) → low ≤ n → n ≤ high → distance n v ≤ distance n low → distance n v ≤ distance n high → (low ≤ v) × (v ≤ high)
between n v low high a b c d = (omega arith, omega arith)

parity : (u q c : ℕ) → 0 < u → q * u ≡ c * (2 * u) → q % 2 ≡ 0
parity u q c p e = ⊎_elim (λ l. let m = mul-le-mul_right {m = suc q} {n = c * 2} u l in let r : c * 2 * u ≡ c * (2 * u) = omega arith in absurd (omega arith))
    (λ l. ⊎_elim (λ k. let m = mul-le-mul_right {m = suc (c * 2)} {n = q} u k in let r : c * 2 * u ≡ c * (2 * u) = omega arith in absurd (omega arith)) (λ k. let same : q ≡ c * 2 = omega arith in omega arith) (cases_lt (c * 2) q))
    (cases_lt q (c * 2))

parity_of : (u q c v : ℕ) → 0 < u → v ≡ q * u → v ≡ c * (2 * u) → q % 2 ≡ 0
parity_of u q c v p a b = parity u q c p (sym a ∙ b)

near_low : (n v u a r : ℕ) → n ≡ a + r → 2 * r < u → distance n v ≤ distance n a → (v ≤ a) ⊎ (a + u ≤ v) → v ≡ a
near_low n v u a r e h d (inl s) = omega arith
near_low n v u a r e h d (inr s) = absurd (omega arith)

near_high : (n v u a r : ℕ) → n ≡ a + r → r < u → u < 2 * r → distance n v ≤ distance n (a + u) → (v ≤ a) ⊎ (a + u ≤ v) → v ≡ a + u
near_high n v u a r e l h d (inl s) = absurd (omega arith)
near_high n v u a r e l h d (inr s) = omega arith

tie_either : (n v u a r : ℕ) → n ≡ a + r → 2 * r ≡ u → distance n v ≤ distance n a → (v ≤ a) ⊎ (a + u ≤ v) → (v ≡ a) ⊎ (v ≡ a + u)
tie_either n v u a r e h d (inl s) = inl (omega arith)
tie_either n v u a r e h d (inr s) = inr (omega arith)

module _ (u n v : ℕ) (p : 0 < u) (h : IsNearest u n v (λ _. IsMultiple (2 * u) v)) where
  whole : n ≡ n / u * u + n % u
  whole = sym (div-add-mod' n u)

  small : n % u < u
  small = mod-lt n p

  stands : (v ≤ n / u * u) ⊎ (n / u * u + u ≤ v)
  stands = sides (n / u) u v h.multiple

  low_near : distance n v ≤ distance n (n / u * u)
  low_near = h.nearest (n / u * u) (n / u, refl)

  high_near : distance n v ≤ distance n (n / u * u + u)
  high_near = h.nearest (n / u * u + u) (n / u + 1, upper_count (n / u) u)

  tie_low : 2 * (n % u) ≡ u → v ≡ n / u * u → n / u % 2 ≡ 0
  tie_low t e =
      let m : IsMultiple (2 * u) v = h.tied (n / u * u + u) (n / u + 1, upper_count (n / u) u) (λ same. absurd (omega (arith, e, same, p))) (omega (arith, e, t, whole)) in
      parity_of u (n / u) m.0 v p e m.1

  tie_high : 2 * (n % u) ≡ u → v ≡ n / u * u + u → (n / u + 1) % 2 ≡ 0
  tie_high t e =
      let m : IsMultiple (2 * u) v = h.tied (n / u * u) (n / u, refl) (λ same. absurd (omega (arith, e, same, p))) (omega (arith, e, t, whole)) in
      parity_of u (n / u + 1) m.0 v p (e ∙ upper_count (n / u) u) m.1

  at_count : (count : ℕ) → CountedBy u (n / u) (n % u) count → v ≡ count * u
  at_count count (under l e) = near_low n v u (n / u * u) (n % u) whole l low_near stands ∙ ap (λ c. c * u) (sym e)
  at_count count (over l e) = near_high n v u (n / u * u) (n % u) whole small l high_near stands ∙ upper_count (n / u) u ∙ ap (λ c. c * u) (sym e)
  at_count count (tie t e) = ⊎_elim
      (λ low. let even = tie_low t low in let same : n / u ≡ count = omega arith in low ∙ ap (λ c. c * u) same)
      (λ high. let odd = tie_high t high in let same : n / u + 1 ≡ count = omega arith in high ∙ upper_count (n / u) u ∙ ap (λ c. c * u) same)
      (tie_either n v u (n / u * u) (n % u) whole t low_near stands)

  -- the nearest multiple, half to even, is that of the quotient
  pub even_is : v ≡ even_count u n * u
  even_is = at_count (even_count u n) (counted u n)

pub power_multiple : (i j : ℕ) → i ≤ j → IsMultiple (10 ^ i) (10 ^ j)
power_multiple i j l = let e : j ≡ (j - i) + i = omega arith in (10 ^ (j - i), ap (λ x. 10 ^ x) e ∙ pow-add 10 (j - i) i)

-- the powers around a number are multiples of a unit below it, so the nearest multiple is between them
pub stays_between : (i k n v : ℕ) (takes : ℕ → Type 0) → i ≤ k → 10 ^ k ≤ n → n < 10 ^ suc k → IsNearest (10 ^ i) n v takes → (10 ^ k ≤ v) × (v ≤ 10 ^ suc k)
stays_between i k n v takes l a b h = between n v (10 ^ k) (10 ^ suc k) a (omega arith) (h.nearest (10 ^ k) (power_multiple i k l)) (h.nearest (10 ^ suc k) (power_multiple i (suc k) (omega arith)))
