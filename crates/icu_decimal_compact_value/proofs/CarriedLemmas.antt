-- When a rounded value is ten to the next magnitude, and when the next entry has this exponent.
use Rattle.std.proofs.Common.{◌≡◌, ℕ, suc, ◌+◌, ◌^◌, ◌<◌, ◌≤◌, ◌==◌, ◌&&◌, Bool, true, false, nat_lt, List, length, get_or, Option, None, Some, refl, sym, ap, ◌∙◌, arith, inl, inr, ⊎_elim}
use Rattle.std.specs.List.{position}
use Rattle.std.proofs.Math.Bool.{and-false}
use Rattle.std.proofs.lemmas.Bool.{cases_lt}
use Rattle.std.proofs.lemmas.Bool.Decides.{nat_tests}
use Rattle.std.proofs.lemmas.Option.{slice_get-get_or}
use Rattle.fixed_decimal.proofs.TenLemmas.{tens_apart}
use Rattle.icu_decimal_compact_value.specs.declared.entry.CompactEntry.{CompactEntry}
use Rattle.icu_decimal_compact_value.specs.Choice.{entry_of, has_exponent_at, is_carried_to, next_at}
use Rattle.icu_decimal_compact_value.specs.ShownValue.{magnitude}
use Rattle.icu_decimal_compact_value.specs.Steps.{StaysNear}
use Rattle.icu_decimal_compact_value.proofs.MagnitudeLemmas.{IsTop, magnitude_unique}
use Rattle.icu_decimal_compact_value.proofs.TableLemmas.{found_at}

power_top : (v k : ℕ) → v ≡ 10 ^ k → IsTop v k
power_top v k e = record { reaches = omega arith; below = let p = tens_apart 0 k (omega arith) in omega arith }

not_power : (k v : ℕ) → magnitude 32768 v ≤ k → (v == 10 ^ suc k) ≡ false
not_power k v h = go (v == 10 ^ suc k) refl
  where
    go : (b : Bool) → (v == 10 ^ suc k) ≡ b → b ≡ false
    go false e = refl
    go true e =
        let same : v ≡ 10 ^ suc k = grind (arith, nat_tests, e) in
        let m : magnitude 32768 v ≡ suc k = magnitude_unique 32768 v (suc k) (power_top v (suc k) same) in
        absurd (omega arith)

is_power : (k v : ℕ) → StaysNear k v → k < magnitude 32768 v → (v == 10 ^ suc k) ≡ true
is_power k v (inl z) h =
    let m : magnitude 32768 v ≡ 32768 = ap (magnitude 32768) z.0 in
    let at = z.1 in
    absurd (omega arith)
is_power k v (inr b) h = ⊎_elim
    (λ l. let m : magnitude 32768 v ≡ k = magnitude_unique 32768 v k (record { reaches = b.0; below = l }) in absurd (omega arith))
    (λ l. let most = b.1 in let same : v ≡ 10 ^ suc k = omega arith in grind (arith, nat_tests, same))
    (cases_lt v (10 ^ suc k))

module _ (entries : List CompactEntry) (k v first : ℕ) (at : first ≡ magnitude 32768 v) where
  pub stays : first ≤ k → is_carried_to 32768 entries k v ≡ false
  stays h = let e : (v == 10 ^ suc k) ≡ false = not_power k v (omega arith) in ap (λ b. b && has_exponent_at 32768 (suc k) (next_at 32768 entries k)) e

  next_is : (next : Option ℕ) → next ≡ position (λ x. nat_lt k (32768 + x.log10_type)) entries → entry_of entries next ≡ next_at 32768 entries k
  next_is next e = ap (entry_of entries) e ∙ found_at (λ x. nat_lt k (32768 + x.log10_type)) entries

  pub no_next : (next : Option ℕ) → next ≡ position (λ x. nat_lt k (32768 + x.log10_type)) entries → next ≡ None → is_carried_to 32768 entries k v ≡ false
  no_next next e z =
      let none : next_at 32768 entries k ≡ None = sym (next_is next e) ∙ ap (entry_of entries) z in
      ap (λ o. (v == 10 ^ suc k) && has_exponent_at 32768 (suc k) o) none ∙ and-false (v == 10 ^ suc k)

  module _ (near : StaysNear k v) (above : k < first) (i : ℕ) (e : Some i ≡ position (λ x. nat_lt k (32768 + x.log10_type)) entries) where
    pub next_entry : entry_of entries (Some i) ≡ next_at 32768 entries k
    next_entry = next_is (Some i) e

    carried_is : (d : CompactEntry) → i < length entries → is_carried_to 32768 entries k v ≡ (32768 + (get_or entries i d).exponent == suc k)
    carried_is d l =
        let one : (v == 10 ^ suc k) ≡ true = is_power k v near (omega arith) in
        ap (λ b. b && has_exponent_at 32768 (suc k) (next_at 32768 entries k)) one
        ∙ ap (has_exponent_at 32768 (suc k)) (sym next_entry ∙ slice_get-get_or entries i d l)

    pub carried : (d : CompactEntry) → i < length entries → 32768 + (get_or entries i d).exponent ≡ k + 1 → is_carried_to 32768 entries k v ≡ true
    carried d l s = carried_is d l ∙ grind (arith, nat_tests, s)

    pub kept : (d : CompactEntry) → i < length entries → ¬ (32768 + (get_or entries i d).exponent ≡ k + 1) → is_carried_to 32768 entries k v ≡ false
    kept d l s = carried_is d l ∙ go (32768 + (get_or entries i d).exponent == suc k) refl
      where
        go : (b : Bool) → (32768 + (get_or entries i d).exponent == suc k) ≡ b → b ≡ false
        go false f = refl
        go true f = absurd (s (grind (arith, nat_tests, f)))
