-- The laws of the value shown under a table, from those of the shown value: `specs/UnderTableLaws.antt`. Exact forms are in range.
use Rattle.std.proofs.Common.{◌≡◌, ℕ, ◌*◌, ◌^◌, ◌<◌, ◌≤◌, List, refl, sym, ap, ◌∙◌, subst, arith, ⊎_elim}
use Rattle.std.proofs.Math.Nat.{eq-zero-or-pos}
use Rattle.std.proofs.lemmas.Bool.{cases_lt}
use Rattle.fixed_decimal.specs.Rounding.{count_limit, distance}
use Rattle.fixed_decimal.proofs.TenLemmas.{tens_apart}
use Rattle.icu_decimal_compact_value.specs.declared.entry.CompactEntry.{CompactEntry}
use Rattle.icu_decimal_compact_value.specs.Choice.{CanShow, chosen, exponent_place, shown_under}
use Rattle.icu_decimal_compact_value.specs.Entries.{Rises}
use Rattle.icu_decimal_compact_value.specs.ExactForms.{IsInRange}
use Rattle.icu_decimal_compact_value.specs.ShownValue.{IsShowable, IsShown, magnitude}
use Rattle.icu_decimal_compact_value.proofs.ExactLemmas.{exact_form_has_shown_magnitude}
use Rattle.icu_decimal_compact_value.proofs.MagnitudeLemmas.{magnitude_top}
use Rattle.icu_decimal_compact_value.proofs.ShowableLemmas.{limit_is}
use Rattle.icu_decimal_compact_value.proofs.ShownLemmas.{order_kept, rule_shows, shown_near, shows_itself, zero_for_zero}

module _ (ones : ℕ) (entries : List CompactEntry) where
  is_shown : (n : ℕ) → IsShown ones (exponent_place ones entries) n (shown_under ones entries n)
  is_shown n = rule_shows ones (exponent_place ones entries) n

  pub table_keeps_order : (n m : ℕ) → n ≤ m → shown_under ones entries n ≤ shown_under ones entries m
  table_keeps_order n m l = ⊎_elim
      (λ less. order_kept ones (exponent_place ones entries) n m (shown_under ones entries n) (shown_under ones entries m) (is_shown n) (is_shown m) less)
      (λ most. let same : n ≡ m = omega arith in let e : shown_under ones entries n ≡ shown_under ones entries m = ap (shown_under ones entries) same in omega arith)
      (cases_lt n m)

  pub table_shows_near : (n : ℕ) → 20 * distance n (shown_under ones entries n) ≤ n
  table_shows_near n = shown_near ones (exponent_place ones entries) n (shown_under ones entries n) (is_shown n)

  pub zero_is_shown_for_zero : (n : ℕ) → shown_under ones entries n ≡ 0 → n ≡ 0
  zero_is_shown_for_zero n z = zero_for_zero ones (exponent_place ones entries) n (subst (IsShown ones (exponent_place ones entries) n) z (is_shown n))

  pub zero_shows_zero : (n : ℕ) → n ≡ 0 → shown_under ones entries n ≡ 0
  zero_shows_zero n z = let h = table_shows_near n in omega arith

  pub shown_value_shows_itself : (n m : ℕ) → m ≡ shown_under ones entries n → shown_under ones entries m ≡ m
  shown_value_shows_itself n m e = shows_itself ones (exponent_place ones entries) m (shown_under ones entries m)
      (subst (IsShowable ones (exponent_place ones entries)) (sym e) (is_shown n).showable) (is_shown m)

pub shown_value_can_be_shown : (entries : List CompactEntry) (n m : ℕ) → CanShow entries n → m ≡ shown_under 32768 entries n → CanShow entries m
shown_value_can_be_shown entries n m can e = record { below = subst (λ v. v < count_limit) (sym (shown_value_shows_itself 32768 entries n m e ∙ e)) can.below }

-- a value below the limit has a magnitude in range
magnitude_below : (limit k : ℕ) → limit ≡ 10 ^ k → 32768 < k → (v : ℕ) → v < limit → magnitude 32768 v < k
magnitude_below limit k is room v l = ⊎_elim
    (λ z. let m : magnitude 32768 v ≡ 32768 = ap (magnitude 32768) z in omega arith)
    (λ p. ⊎_elim (λ h. h)
    (λ h. let up = tens_apart k (magnitude 32768 v) h in let t = (magnitude_top 32768 v p).reaches in absurd (omega arith))
    (cases_lt (magnitude 32768 v) k))
    (eq-zero-or-pos v)

magnitude_in_range : (k v : ℕ) → k ≡ 65536 → v < count_limit → magnitude 32768 v < k
magnitude_in_range k v e l = magnitude_below count_limit k (limit_is k e) (omega arith) v l

pub value_in_range : (v : ℕ) → v < count_limit → magnitude 32768 v < 65536
value_in_range v l = magnitude_in_range 65536 v refl l

pub exact_form_is_in_range : (entries : List CompactEntry) (n : ℕ) → Rises 0 entries → CanShow entries n → let c = chosen 32768 entries n in IsInRange c.count c.exponent
exact_form_is_in_range entries n rises can =
    subst (λ k. k < 65536) (sym (exact_form_has_shown_magnitude 32768 entries n (omega arith) rises)) (value_in_range (shown_under 32768 entries n) can.below)
