-- What is shown for a number, sent back: its text, and that it is a compact number: `specs/CompactLaws.antt`.
use Rattle.std.proofs.Common.{◌≡◌, ℕ, ◌*◌, zero, suc, ◌+◌, ◌-◌, ◌/◌, ◌%◌, ◌^◌, ◌<◌, ◌≤◌, ◌==◌, max, Bool, true, false, cond, nat_le, nat_lt, List, [], ◌∷◌, Option, None, Some, option_map, refl, sym, ap, ◌∙◌, subst, arith}
use Rattle.std.specs.Option.{option_or}
use Rattle.std.proofs.Math.Nat.{div-le_self, mod_self}
use Rattle.std.proofs.lemmas.Bool.Decides.{nat_tests}
use Rattle.fixed_decimal.specs.CompactText.{IsCompact}
use Rattle.fixed_decimal.specs.Number.{IsNumber, Number}
use Rattle.fixed_decimal.specs.Rounding.{count_limit}
use Rattle.fixed_decimal.specs.SignedValue.{SignedValue}
use Rattle.fixed_decimal.proofs.TenLemmas.{tens_positive}
use Rattle.icu_decimal_patterns.specs.SmallEntries.{AreSmall}
use Rattle.icu_decimal_compact_value.specs.declared.entry.CompactEntry.{CompactEntry}
use Rattle.icu_decimal_compact_value.specs.Choice.{CanShow, chosen, entry_at, exact_entry, exponent_of, is_carried, next_at, shown_under}
use Rattle.icu_decimal_compact_value.specs.Entries.{Rises}
use Rattle.icu_decimal_compact_value.specs.ExactForms.{IsInRange}
use Rattle.icu_decimal_compact_value.specs.ExactLaws.{UsesShownEntry}
use Rattle.icu_decimal_compact_value.specs.ShownValue.{magnitude, top}
use Rattle.icu_decimal_compact_value.specs.Significand.{plain_one}
use Rattle.icu_decimal_compact_value.proofs.ExactLemmas.{choice_value, exact_answers, writes_same}
use Rattle.icu_decimal_compact_value.proofs.MagnitudeLemmas.{magnitude_some}
use Rattle.icu_decimal_compact_value.proofs.ShowLemmas.{cancel_same, carried_exponent, carried_value, tens_sum}
use Rattle.icu_decimal_compact_value.proofs.UnderTableLemmas.{exact_form_is_in_range, value_in_range}
use Rattle.icu_decimal.specs.CompactTables.{CompactTables}
use Rattle.icu_decimal.specs.CompactText.{compact_decimal_text, lowest_place, padded, significand_of, value_shown}
use Rattle.icu_decimal.specs.ExactText.{exact_text, written_text}
use Rattle.icu_decimal.proofs.ShownLemmas.{below_top}

-- ---- the count of the significand

-- where the next entry is taken, one is shown
module _ (ones : ℕ) (entries : List CompactEntry) (n : ℕ) (some : 1 ≤ ones) (rises : Rises 0 entries) (carried : is_carried ones entries n ≡ true) where
  next_exponent : (chosen ones entries n).exponent ≡ exponent_of (next_at ones entries (magnitude ones n))
  next_exponent = ap (λ b. exponent_of (cond b (next_at ones entries (magnitude ones n)) (entry_at ones entries (magnitude ones n)))) carried

  place_is : ones + (chosen ones entries n).exponent ≡ suc (magnitude ones n)
  place_is = ap (λ x. ones + x) next_exponent ∙ carried_exponent ones (magnitude ones n) (shown_under ones entries n) (next_at ones entries (magnitude ones n)) carried

  pub one_is_chosen : (chosen ones entries n).count ≡ 10 ^ ones
  one_is_chosen =
      cancel_same (chosen ones entries n).count (10 ^ ones) (10 ^ (chosen ones entries n).exponent) (tens_positive (chosen ones entries n).exponent)
      (choice_value ones entries n some rises
      ∙ carried_value ones (magnitude ones n) (shown_under ones entries n) (next_at ones entries (magnitude ones n)) carried
      ∙ ap (λ k. 10 ^ k) (sym place_is)
      ∙ tens_sum ones (chosen ones entries n).exponent)

count_by : (b : Bool) (count x : ℕ) (number : Number) → (b ≡ true → count ≡ plain_one.count) → (cond b plain_one (padded count x number)).count ≡ count
count_by true count x number one = sym (one refl)
count_by false count x number one = refl

pub significand_count : (entries : List CompactEntry) (number : Number) → Rises 0 entries → (significand_of entries number).count ≡ (chosen 32768 entries number.count).count
significand_count entries number rises =
    count_by (is_carried 32768 entries number.count) (chosen 32768 entries number.count).count (chosen 32768 entries number.count).exponent number
    (λ carried. one_is_chosen 32768 entries number.count (omega arith) rises carried)

-- ---- the text

module _ (t : CompactTables) (d : SignedValue Number) (rises : Rises 0 t.patterns.entries) where
  text_by : exact_text t (value_shown t d).significand (value_shown t d).exponent
      ≡ option_map (written_text t (value_shown t d).significand) (exact_entry 32768 t.patterns.entries (chosen 32768 t.patterns.entries d.absolute.count).count (chosen 32768 t.patterns.entries d.absolute.count).exponent)
  text_by = ap (λ s. option_map (written_text t (value_shown t d).significand) (exact_entry 32768 t.patterns.entries s (chosen 32768 t.patterns.entries d.absolute.count).exponent))
      (significand_count t.patterns.entries d.absolute rises)

  pub shown_form_answers : let entry = entry_at 32768 t.patterns.entries (magnitude 32768 (shown_under 32768 t.patterns.entries d.absolute.count)) in
      exact_text t (value_shown t d).significand (value_shown t d).exponent
      ≡ cond (exponent_of entry == (value_shown t d).exponent) (Some (written_text t (value_shown t d).significand entry)) None
  shown_form_answers =
      text_by
      ∙ ap (option_map (written_text t (value_shown t d).significand)) (exact_answers 32768 t.patterns.entries d.absolute.count (omega arith) rises)
      ∙ mapped (exponent_of (entry_at 32768 t.patterns.entries (magnitude 32768 (shown_under 32768 t.patterns.entries d.absolute.count))) == (value_shown t d).exponent)
      (entry_at 32768 t.patterns.entries (magnitude 32768 (shown_under 32768 t.patterns.entries d.absolute.count)))
    where
      mapped : (b : Bool) (entry : Option CompactEntry) → option_map (written_text t (value_shown t d).significand) (cond b (Some entry) None) ≡ cond b (Some (written_text t (value_shown t d).significand entry)) None
      mapped true entry = refl
      mapped false entry = refl

  pub shown_form_writes_same : UsesShownEntry 32768 t.patterns.entries d.absolute.count → exact_text t (value_shown t d).significand (value_shown t d).exponent ≡ Some (compact_decimal_text t d)
  shown_form_writes_same uses =
      text_by
      ∙ ap (option_map (written_text t (value_shown t d).significand)) (writes_same 32768 t.patterns.entries d.absolute.count (omega arith) rises uses)

  pub shown_form_is_shown_value : (value_shown t d).significand.absolute.count * 10 ^ (value_shown t d).exponent ≡ shown_under 32768 t.patterns.entries d.absolute.count
  shown_form_is_shown_value =
      ap (λ s. s * 10 ^ (chosen 32768 t.patterns.entries d.absolute.count).exponent) (significand_count t.patterns.entries d.absolute rises)
      ∙ choice_value 32768 t.patterns.entries d.absolute.count (omega arith) rises

  pub shown_form_is_in_range : CanShow t.patterns.entries d.absolute.count → IsInRange (value_shown t d).significand.absolute.count (value_shown t d).exponent
  shown_form_is_in_range can =
      subst (λ s. IsInRange s (chosen 32768 t.patterns.entries d.absolute.count).exponent) (sym (significand_count t.patterns.entries d.absolute rises))
      (exact_form_is_in_range t.patterns.entries d.absolute.count rises can)

-- ---- the significand is a number

lowest_under_most : (most count : ℕ) → lowest_place most count ≤ most
unfolding lowest_place
lowest_under_most zero count = omega arith
lowest_under_most (suc most) count = go (count % 10 ^ suc most == 0) (lowest_under_most most count)
  where
    go : (b : Bool) → lowest_place most count ≤ most → cond b (suc most) (lowest_place most count) ≤ suc most
    go true ih = omega arith
    go false ih = omega (arith, ih)

lowest_whole : (most count : ℕ) → count % 10 ^ lowest_place most count ≡ 0
unfolding lowest_place
lowest_whole zero count = omega arith
lowest_whole (suc most) count = go (count % 10 ^ suc most == 0) refl (lowest_whole most count)
  where
    go : (b : Bool) → (count % 10 ^ suc most == 0) ≡ b → count % 10 ^ lowest_place most count ≡ 0 → count % 10 ^ cond b (suc most) (lowest_place most count) ≡ 0
    go true e ih = grind (arith, nat_tests, e)
    go false e ih = ih

-- a count below the limit has its first digit in range
top_in_range : (count : ℕ) → count < count_limit → top count < 65536
top_in_range zero l = omega arith
top_in_range (suc n) l = subst (λ k. k < 65536) (magnitude_some 32768 (suc n) (omega arith)) (value_in_range (suc n) l)

one_is_number : (o : ℕ) → o ≡ 32768 → IsNumber (record { count = 10 ^ o; low = o; high = o })
one_is_number o e = record {
  low = omega arith;
  ones = omega arith;
  high = omega arith;
  whole = mod_self (10 ^ o);
  below = let p = tens_positive o in let k : o + 1 ≡ suc o = omega arith in let t : 10 ^ (o + 1) ≡ 10 ^ suc o = ap (λ y. 10 ^ y) k in omega arith;
}

padded_is_number : (count x : ℕ) (number : Number) → IsNumber number → top count < 65536 → IsNumber (padded count x number)
padded_is_number count x number is t = record {
  low = lowest_under_most 32768 count;
  ones = omega arith;
  high = let h = is.high in omega arith;
  whole = lowest_whole 32768 count;
  below = below_top count (max (max 32768 (number.high - x)) (top count)) (omega arith);
}

number_by : (b : Bool) (count x : ℕ) (number : Number) → IsNumber number → top count < 65536 → IsNumber (cond b plain_one (padded count x number))
number_by true count x number is t = one_is_number 32768 refl
number_by false count x number is t = padded_is_number count x number is t

pub significand_is_number : (entries : List CompactEntry) (number : Number) → IsNumber number → CanShow entries number.count → IsNumber (significand_of entries number)
significand_is_number entries number is can =
    number_by (is_carried 32768 entries number.count) (chosen 32768 entries number.count).count (chosen 32768 entries number.count).exponent number is
    (top_in_range (chosen 32768 entries number.count).count
    (let l : shown_under 32768 entries number.count / 10 ^ (chosen 32768 entries number.count).exponent ≤ shown_under 32768 entries number.count = div-le_self (shown_under 32768 entries number.count) (10 ^ (chosen 32768 entries number.count).exponent) in
    let b = can.below in omega arith))

-- ---- the exponent fits into a byte

entry_small : (ones : ℕ) (entries : List CompactEntry) (k : ℕ) → AreSmall entries → exponent_of (entry_at ones entries k) < 256
entry_small ones [] k small = omega arith
entry_small ones (x ∷ xs) k small = go (entry_at ones xs k) (nat_le (ones + x.log10_type) k) (entry_small ones xs k small.1)
  where
    go : (o : Option CompactEntry) (b : Bool) → exponent_of o < 256 → exponent_of (option_or o (cond b (Some x) None)) < 256
    go (Some y) b h = h
    go None true h = small.0.1
    go None false h = omega arith

next_small : (ones : ℕ) (entries : List CompactEntry) (k : ℕ) → AreSmall entries → exponent_of (next_at ones entries k) < 256
next_small ones [] k small = omega arith
next_small ones (x ∷ xs) k small = go (nat_lt k (ones + x.log10_type)) (next_small ones xs k small.1)
  where
    go : (b : Bool) → exponent_of (next_at ones xs k) < 256 → exponent_of (cond b (Some x) (next_at ones xs k)) < 256
    go true h = small.0.1
    go false h = h

pub exponent_small : (ones : ℕ) (entries : List CompactEntry) (n : ℕ) → AreSmall entries → (chosen ones entries n).exponent < 256
exponent_small ones entries n small = go (is_carried ones entries n)
  where
    go : (b : Bool) → exponent_of (cond b (next_at ones entries (magnitude ones n)) (entry_at ones entries (magnitude ones n))) < 256
    go true = next_small ones entries (magnitude ones n) small
    go false = entry_small ones entries (magnitude ones n) small

pub shown_is_compact : (t : CompactTables) (d : SignedValue Number) → AreSmall t.patterns.entries → IsNumber d.absolute → CanShow t.patterns.entries d.absolute.count → IsCompact (value_shown t d)
shown_is_compact t d small is can = record {
  significand = significand_is_number t.patterns.entries d.absolute is can;
  exponent = exponent_small 32768 t.patterns.entries d.absolute.count small;
}
