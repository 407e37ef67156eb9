-- What is shown for a number, sent back in the exact form.
use Rattle.std.proofs.Common.{◌≡◌, ◌≢◌, ℕ, suc, ◌+◌, ◌-◌, ◌*◌, ◌/◌, ◌^◌, ◌<◌, ◌≤◌, ◌==◌, ◌⊎◌, ◌&&◌, Bool, true, false, cond, nat_lt, nat_le, min, List, [], ◌∷◌, Option, None, Some, refl, sym, ap, ◌∙◌, subst, arith, inl, inr, ⊎_elim}
use Rattle.std.specs.Option.{option_or}
use Rattle.std.proofs.Math.Nat.{eq-zero-or-pos, mul-div_cancel, mul-lt-mul_of_pos_right, mul-le-mul_right, zero-mul}
use Rattle.std.proofs.lemmas.Bool.{cases_lt}
use Rattle.std.proofs.lemmas.Bool.Decides.{nat_tests}
use Rattle.fixed_decimal.specs.Rounding.{IsMultiple}
use Rattle.fixed_decimal.proofs.TenLemmas.{tens_positive}
use Rattle.icu_decimal_compact_value.specs.declared.entry.CompactEntry.{CompactEntry}
use Rattle.icu_decimal_compact_value.specs.Choice.{chosen, entry_at, exact_entry, exponent_of, exponent_place, has_exponent_at, is_carried, next_at, shown_under}
use Rattle.icu_decimal_compact_value.specs.Entries.{Rises}
use Rattle.icu_decimal_compact_value.specs.ExactLaws.{IsFlat, UsesShownEntry, WritesSame}
use Rattle.icu_decimal_compact_value.specs.ShownValue.{even_count, magnitude, unit_place}
use Rattle.icu_decimal_compact_value.proofs.MagnitudeLemmas.{IsTop, magnitude_top, magnitude_unique}
use Rattle.icu_decimal_compact_value.proofs.RoundingLemmas.{power_multiple}
use Rattle.icu_decimal_compact_value.proofs.ShowLemmas.{carried_exponent, carried_value, tens_sum}
use Rattle.icu_decimal_compact_value.proofs.ShowableLemmas.{shown_between}

-- an entry that is reached has its exponent below the magnitude
pub entry_fits : (ones least : ℕ) (entries : List CompactEntry) (k : ℕ) → Rises least entries → (exponent_of (entry_at ones entries k) ≡ 0) ⊎ (ones + exponent_of (entry_at ones entries k) ≤ k)
entry_fits ones least [] k r = inl refl
entry_fits ones least (x ∷ xs) k r = go (entry_at ones xs k) (nat_le (ones + x.log10_type) k) refl (entry_fits ones (suc x.log10_type) xs k r.2)
  where
    go : (o : Option CompactEntry) (b : Bool) → nat_le (ones + x.log10_type) k ≡ b → (exponent_of o ≡ 0) ⊎ (ones + exponent_of o ≤ k) → (exponent_of (option_or o (cond b (Some x) None)) ≡ 0) ⊎ (ones + exponent_of (option_or o (cond b (Some x) None)) ≤ k)
    go (Some y) b e h = h
    go None true e h = inr (let w = r.1.within in let l : ones + x.log10_type ≤ k = grind (arith, nat_tests, e) in omega arith)
    go None false e h = inl refl

none_before : (ones least : ℕ) (entries : List CompactEntry) (k : ℕ) → Rises least entries → k < ones + least → entry_at ones entries k ≡ None
none_before ones least [] k r l = refl
none_before ones least (x ∷ xs) k r l =
    let at = r.0 in
    let test : nat_le (ones + x.log10_type) k ≡ false = let h : k < ones + x.log10_type = omega arith in grind (arith, nat_tests, h) in
    let ih : entry_at ones xs k ≡ None = none_before ones (suc x.log10_type) xs k r.2 (omega arith) in
    ap (λ o. option_or o (cond (nat_le (ones + x.log10_type) k) (Some x) None)) ih ∙ ap (λ b. option_or None (cond b (Some x) None)) test

-- the entry of the next magnitude: the next entry where its type is that, else the same
pub record Steps (ones k : ℕ) (next here there : Option CompactEntry) : Type 0 where
  pub none : next ≡ None → there ≡ here
  pub at : (x : CompactEntry) → next ≡ Some x → ones + x.log10_type ≡ suc k → there ≡ Some x
  pub beyond : (x : CompactEntry) → next ≡ Some x → ones + x.log10_type ≢ suc k → there ≡ here

some_same : (x y : CompactEntry) → Some x ≡ Some y → x ≡ y
some_same x y e = ap (λ o. elim o as (λ _. CompactEntry) [ None ↦ x | Some z ↦ z ]) e

steps : (ones least : ℕ) (entries : List CompactEntry) (k : ℕ) → Rises least entries → Steps ones k (next_at ones entries k) (entry_at ones entries k) (entry_at ones entries (suc k))
steps ones least [] k r = record { none = λ e. refl; at = λ x e. absurd (grind (arith, e)); beyond = λ x e. absurd (grind (arith, e)) }
steps ones least (x ∷ xs) k r = go (nat_lt k (ones + x.log10_type)) refl (steps ones (suc x.log10_type) xs k r.2)
  where
    test : (j : ℕ) (b : Bool) → nat_le (ones + x.log10_type) j ≡ b → (o : Option CompactEntry) → entry_at ones xs j ≡ o → entry_at ones (x ∷ xs) j ≡ option_or o (cond b (Some x) None)
    test j b e o f = ap (λ t. option_or t (cond (nat_le (ones + x.log10_type) j) (Some x) None)) f ∙ ap (λ t. option_or o (cond t (Some x) None)) e

    or_same : (o : Option CompactEntry) → entry_at ones xs (suc k) ≡ o → entry_at ones xs k ≡ o → ones + x.log10_type ≤ k → entry_at ones (x ∷ xs) (suc k) ≡ entry_at ones (x ∷ xs) k
    or_same o a b l = test (suc k) true (grind (arith, nat_tests, l)) o a ∙ sym (test k true (grind (arith, nat_tests, l)) o b)

    go : (b : Bool) → nat_lt k (ones + x.log10_type) ≡ b → Steps ones k (next_at ones xs k) (entry_at ones xs k) (entry_at ones xs (suc k)) → Steps ones k (cond b (Some x) (next_at ones xs k)) (entry_at ones (x ∷ xs) k) (entry_at ones (x ∷ xs) (suc k))
    go true e ih =
        let l : k < ones + x.log10_type = grind (arith, nat_tests, e) in
        let here : entry_at ones (x ∷ xs) k ≡ None = test k false (grind (arith, nat_tests, l)) None (none_before ones (suc x.log10_type) xs k r.2 (omega arith)) in
        let later : entry_at ones xs (suc k) ≡ None = none_before ones (suc x.log10_type) xs (suc k) r.2 (omega arith) in
        record {
          none = λ f. absurd (grind (arith, f));
          at = λ y f g.
              let same : x ≡ y = some_same x y f in
              let t : ones + x.log10_type ≡ suc k = ap (λ z. ones + z.log10_type) same ∙ g in
              test (suc k) true (grind (arith, nat_tests, t)) None later ∙ f;
          beyond = λ y f g.
              let same : x ≡ y = some_same x y f in
              let t : ¬ (ones + x.log10_type ≡ suc k) = λ h. g (ap (λ z. ones + z.log10_type) (sym same) ∙ h) in
              let more : suc k < ones + x.log10_type = ⊎_elim (λ a. a) (λ a. absurd (t (omega arith))) (cases_lt (suc k) (ones + x.log10_type)) in
              test (suc k) false (grind (arith, nat_tests, more)) None later ∙ sym here;
        }
    go false e ih =
        let l : ones + x.log10_type ≤ k = grind (arith, nat_tests, e) in
        record {
          none = λ f. or_same (entry_at ones xs k) (ih.none f) refl l;
          at = λ y f g. test (suc k) true (grind (arith, nat_tests, l)) (Some y) (ih.at y f g);
          beyond = λ y f g. or_same (entry_at ones xs k) (ih.beyond y f g) refl l;
        }

-- the next entry of a flat table has its type as its exponent
next_flat : (ones : ℕ) (entries : List CompactEntry) (k : ℕ) (x : CompactEntry) → IsFlat entries → next_at ones entries k ≡ Some x → x.exponent ≡ x.log10_type
next_flat ones [] k x f e = absurd (grind (arith, e))
next_flat ones (y ∷ ys) k x f e = go (nat_lt k (ones + y.log10_type)) e (λ h. next_flat ones ys k x f.1 h)
  where
    go : (b : Bool) → cond b (Some y) (next_at ones ys k) ≡ Some x → (next_at ones ys k ≡ Some x → x.exponent ≡ x.log10_type) → x.exponent ≡ x.log10_type
    go true h ih = let same : y ≡ x = some_same y x h in subst (λ z. z.exponent ≡ z.log10_type) same f.0
    go false h ih = ih h

quotient_back : (u v : ℕ) → 0 < u → IsMultiple u v → v / u * u ≡ v
quotient_back u v p m = ap (λ x. x / u * u) m.1 ∙ ap (λ x. x * u) (mul-div_cancel m.0 p) ∙ sym m.1

times_top : (s j x : ℕ) → IsTop s j → IsTop (s * 10 ^ x) (j + x)
times_top s j x t =
    let a = tens_sum j x in
    let b = tens_sum (suc j) x in
    let e : suc j + x ≡ suc (j + x) = omega arith in
    let f : 10 ^ (suc j + x) ≡ 10 ^ suc (j + x) = ap (λ y. 10 ^ y) e in
    let low = mul-le-mul_right {m = 10 ^ j} {n = s} (10 ^ x) t.reaches in
    let high = mul-lt-mul_of_pos_right {m = s} {n = 10 ^ suc j} t.below (tens_positive x) in
    record { reaches = omega arith; below = omega arith }

module _ (ones : ℕ) (entries : List CompactEntry) (n : ℕ) where
  chosen_entry : (b : Bool) → is_carried ones entries n ≡ b → (chosen ones entries n).entry ≡ cond b (next_at ones entries (magnitude ones n)) (entry_at ones entries (magnitude ones n))
  chosen_entry b e = ap (λ t. cond t (next_at ones entries (magnitude ones n)) (entry_at ones entries (magnitude ones n))) e

  carried_power : is_carried ones entries n ≡ true → shown_under ones entries n ≡ 10 ^ suc (magnitude ones n)
  carried_power e = carried_value ones (magnitude ones n) (shown_under ones entries n) (next_at ones entries (magnitude ones n)) e

  carried_place : is_carried ones entries n ≡ true → ones + exponent_of (next_at ones entries (magnitude ones n)) ≡ suc (magnitude ones n)
  carried_place e = carried_exponent ones (magnitude ones n) (shown_under ones entries n) (next_at ones entries (magnitude ones n)) e

  power_magnitude : (k v : ℕ) → v ≡ 10 ^ k → magnitude ones v ≡ k
  power_magnitude k v e = let p = tens_positive k in magnitude_unique ones v k (record { reaches = omega arith; below = omega arith })

  pub kept_magnitude : magnitude ones (shown_under ones entries n) ≡ magnitude ones n → UsesShownEntry ones entries n
  kept_magnitude m = go (is_carried ones entries n) refl
    where
      go : (b : Bool) → is_carried ones entries n ≡ b → UsesShownEntry ones entries n
      go true e = let p = power_magnitude (suc (magnitude ones n)) (shown_under ones entries n) (carried_power e) in absurd (omega arith)
      go false e = ap (entry_at ones entries) m ∙ sym (chosen_entry false e)

  module _ (r : Rises 0 entries) (flat : IsFlat entries) (v : shown_under ones entries n ≡ 10 ^ suc (magnitude ones n)) where
    at_next : (next : Option CompactEntry) → next_at ones entries (magnitude ones n) ≡ next → (b : Bool) → has_exponent_at ones (suc (magnitude ones n)) next ≡ b → entry_at ones entries (suc (magnitude ones n)) ≡ cond b next (entry_at ones entries (magnitude ones n))
    at_next None e true f = absurd (grind (arith, f))
    at_next None e false f = (steps ones 0 entries (magnitude ones n) r).none e
    at_next (Some x) e true f = (steps ones 0 entries (magnitude ones n) r).at x e (let t : x.exponent ≡ x.log10_type = next_flat ones entries (magnitude ones n) x flat e in let g : ones + x.exponent ≡ suc (magnitude ones n) = grind (arith, nat_tests, f) in omega arith)
    at_next (Some x) e false f = (steps ones 0 entries (magnitude ones n) r).beyond x e (λ h. let t : x.exponent ≡ x.log10_type = next_flat ones entries (magnitude ones n) x flat e in let g : ones + x.exponent ≡ suc (magnitude ones n) = omega arith in absurd (grind (arith, nat_tests, f, g)))

    carried_is : (b : Bool) → has_exponent_at ones (suc (magnitude ones n)) (next_at ones entries (magnitude ones n)) ≡ b → is_carried ones entries n ≡ b
    carried_is b e =
        let one : (shown_under ones entries n == 10 ^ suc (magnitude ones n)) ≡ true = grind (arith, nat_tests, v) in
        ap (λ t. t && has_exponent_at ones (suc (magnitude ones n)) (next_at ones entries (magnitude ones n))) one ∙ e

    raised_flat : UsesShownEntry ones entries n
    raised_flat =
        ap (entry_at ones entries) (power_magnitude (suc (magnitude ones n)) (shown_under ones entries n) v)
        ∙ at_next (next_at ones entries (magnitude ones n)) refl (has_exponent_at ones (suc (magnitude ones n)) (next_at ones entries (magnitude ones n))) refl
        ∙ sym (chosen_entry (has_exponent_at ones (suc (magnitude ones n)) (next_at ones entries (magnitude ones n))) (carried_is (has_exponent_at ones (suc (magnitude ones n)) (next_at ones entries (magnitude ones n))) refl))

  pub flat_uses : Rises 0 entries → IsFlat entries → UsesShownEntry ones entries n
  flat_uses r flat = ⊎_elim
      (λ z. kept_magnitude (ap (magnitude ones) z.1 ∙ sym (ap (magnitude ones) z.0)))
      (λ b. ⊎_elim (λ l. kept_magnitude (magnitude_unique ones (shown_under ones entries n) (magnitude ones n) (record { reaches = b.0; below = l })))
      (λ l. raised_flat r flat (let most = b.1 in omega arith))
      (cases_lt (shown_under ones entries n) (10 ^ suc (magnitude ones n))))
      (shown_between ones (exponent_place ones entries) n)

  module _ (some : 1 ≤ ones) (r : Rises 0 entries) where
    exponent_below : (x k : ℕ) → (x ≡ 0) ⊎ (ones + x ≤ k) → x ≤ min (ones + x) (k - 1)
    exponent_below x k (inl z) = omega arith
    exponent_below x k (inr h) = omega arith

    split : (a p x : ℕ) → x ≤ p → IsMultiple (10 ^ x) (a * 10 ^ p)
    split a p x l =
        let m = power_multiple x p l in
        (a * m.0, ap (λ y. a * y) m.1 ∙ regroup a m.0 (10 ^ x))
      where
        regroup : (b c d : ℕ) → b * (c * d) ≡ b * c * d
        regroup b c d = omega arith

    divides : (b : Bool) → is_carried ones entries n ≡ b → IsMultiple (10 ^ exponent_of (cond b (next_at ones entries (magnitude ones n)) (entry_at ones entries (magnitude ones n)))) (shown_under ones entries n)
    divides true e = (10 ^ ones, carried_power e ∙ ap (λ y. 10 ^ y) (sym (carried_place e)) ∙ tens_sum ones (exponent_of (next_at ones entries (magnitude ones n))))
    divides false e = split (even_count (10 ^ unit_place (exponent_place ones entries) (magnitude ones n)) n) (unit_place (exponent_place ones entries) (magnitude ones n)) (exponent_of (entry_at ones entries (magnitude ones n)))
        (exponent_below (exponent_of (entry_at ones entries (magnitude ones n))) (magnitude ones n) (entry_fits ones 0 entries (magnitude ones n) r))

    pub choice_value : (chosen ones entries n).count * 10 ^ (chosen ones entries n).exponent ≡ shown_under ones entries n
    choice_value = quotient_back (10 ^ (chosen ones entries n).exponent) (shown_under ones entries n) (tens_positive (chosen ones entries n).exponent) (divides (is_carried ones entries n) refl)

    plain_zero : (b : Bool) → is_carried ones entries n ≡ b → shown_under ones entries n ≡ 0 → magnitude ones n ≡ ones → exponent_of (cond b (next_at ones entries (magnitude ones n)) (entry_at ones entries (magnitude ones n))) ≡ 0
    plain_zero true e z m = let p = tens_positive (suc (magnitude ones n)) in let c = carried_power e in absurd (omega arith)
    plain_zero false e z m = ⊎_elim (λ h. h) (λ h. omega arith) (entry_fits ones 0 entries (magnitude ones n) r)

    pub exact_form_has_shown_magnitude : magnitude ones (chosen ones entries n).count + (chosen ones entries n).exponent ≡ magnitude ones (shown_under ones entries n)
    exact_form_has_shown_magnitude = ⊎_elim
        (λ z.
        let m : magnitude ones n ≡ ones = ⊎_elim (λ b. ap (magnitude ones) b.0) (λ b. let p = tens_positive (magnitude ones n) in let low = b.0 in absurd (omega arith)) (shown_between ones (exponent_place ones entries) n) in
        let x : (chosen ones entries n).exponent ≡ 0 = plain_zero (is_carried ones entries n) refl z m in
        let c : (chosen ones entries n).count ≡ 0 = zero_factor (chosen ones entries n).count (chosen ones entries n).exponent (choice_value ∙ z) in
        let a : magnitude ones (chosen ones entries n).count ≡ ones = ap (magnitude ones) c in
        let b : magnitude ones (shown_under ones entries n) ≡ ones = ap (magnitude ones) z in
        omega arith)
        (λ p.
        let c : 0 < (chosen ones entries n).count = some_factor (chosen ones entries n).count (chosen ones entries n).exponent (subst (λ y. 0 < y) (sym choice_value) p) in
        sym (magnitude_unique ones (shown_under ones entries n) (magnitude ones (chosen ones entries n).count + (chosen ones entries n).exponent)
        (subst (λ y. IsTop y (magnitude ones (chosen ones entries n).count + (chosen ones entries n).exponent)) choice_value
        (times_top (chosen ones entries n).count (magnitude ones (chosen ones entries n).count) (chosen ones entries n).exponent (magnitude_top ones (chosen ones entries n).count c)))))
        (eq-zero-or-pos (shown_under ones entries n))
      where
        zero_factor : (c x : ℕ) → c * 10 ^ x ≡ 0 → c ≡ 0
        zero_factor c x e = ⊎_elim (λ z. z) (λ p. let m = mul-le-mul_right {m = 1} {n = c} (10 ^ x) p in let t = tens_positive x in absurd (omega arith)) (eq-zero-or-pos c)

        some_factor : (c x : ℕ) → 0 < c * 10 ^ x → 0 < c
        some_factor c x p = ⊎_elim (λ z. let m : c * 10 ^ x ≡ 0 = ap (λ y. y * 10 ^ x) z ∙ zero-mul (10 ^ x) in absurd (omega arith)) (λ h. h) (eq-zero-or-pos c)

    pub exact_answers : exact_entry ones entries (chosen ones entries n).count (chosen ones entries n).exponent ≡ cond (exponent_of (entry_at ones entries (magnitude ones (shown_under ones entries n))) == (chosen ones entries n).exponent) (Some (entry_at ones entries (magnitude ones (shown_under ones entries n)))) None
    exact_answers = ap (λ k. cond (exponent_of (entry_at ones entries k) == (chosen ones entries n).exponent) (Some (entry_at ones entries k)) None) exact_form_has_shown_magnitude

    pub writes_same : UsesShownEntry ones entries n → WritesSame ones entries n
    writes_same u =
        exact_answers
        ∙ ap (λ o. cond (exponent_of o == (chosen ones entries n).exponent) (Some o) None) u
        ∙ ap (λ b. cond b (Some (chosen ones entries n).entry) None) (itself (chosen ones entries n).exponent)
      where
        itself : (x : ℕ) → (x == x) ≡ true
        itself x = grind (arith, nat_tests)
