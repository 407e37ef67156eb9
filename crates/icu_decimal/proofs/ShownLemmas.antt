-- What is shown for a number is the one that the definition names.
use Rattle.std.proofs.Common.{◌≡◌, ℕ, zero, suc, ◌+◌, ◌-◌, ◌%◌, ◌^◌, ◌<◌, ◌≤◌, ◌==◌, max, Bool, true, false, cond, List, [], ◌∷◌, Option, None, Some, option_map, slice_get, refl, sym, ap, ◌∙◌, subst, arith, ⊎_elim}
use Rattle.std.specs.Option.{option_and_then}
use Rattle.std.proofs.lemmas.Bool.{cases_lt}
use Rattle.std.proofs.lemmas.Bool.Decides.{nat_tests}
use Rattle.fixed_decimal.specs.Number.{Number}
use Rattle.fixed_decimal.specs.Range.{IsHighest, IsLowest}
use Rattle.fixed_decimal.proofs.TenLemmas.{tens_apart, tens_positive}
use Rattle.icu_decimal_patterns.specs.Elements.{slot_of}
use Rattle.icu_decimal_patterns.specs.KeptEntries.{CompactTable, Patterns}
use Rattle.icu_decimal_plurals.specs.Operands.{Operands, operands_of}
use Rattle.icu_decimal_compact_value.specs.declared.entry.CompactEntry.{CompactEntry}
use Rattle.icu_decimal_compact_value.specs.Choice.{chosen, entry_of, is_carried}
use Rattle.icu_decimal_compact_value.specs.Entries.{Rises}
use Rattle.icu_decimal_compact_value.specs.ShownValue.{top}
use Rattle.icu_decimal_compact_value.specs.Significand.{IsPadded, ShownNumber, Shows, plain_one}
use Rattle.icu_decimal_compact_value.proofs.MagnitudeLemmas.{top_is}
use Rattle.icu_decimal.specs.CompactTables.{CompactTables}
use Rattle.icu_decimal.specs.CompactText.{CompactNumber, compact_of, lowest_place, padded, pattern_of, patterns_of, patterns_of_type, significand_of}
use Rattle.icu_decimal.specs.PatternAt.{pattern_at}

-- ---- the range of the significand

not_zero : (a : ℕ) → (a == 0) ≡ false → a ≡ 0 → ⊥
not_zero a e z = grind (arith, nat_tests)

is_zero : (a : ℕ) → (a == 0) ≡ true → a ≡ 0
is_zero a e = grind (arith, nat_tests)

lowest_under : (most count low : ℕ) → IsLowest (suc most) count low → (count % 10 ^ suc most ≡ 0 → ⊥) → IsLowest most count low
lowest_under most count low l never = record {
  under = ⊎_elim
      (λ above.
      let under = l.under in
      let same : low ≡ suc most = omega (arith, above, under) in
      absurd (never (subst (λ p. count % 10 ^ p ≡ 0) same l.whole)))
      (λ below. below) (cases_lt most low);
  whole = l.whole;
  highest = λ p within whole. l.highest p (omega (arith, within)) whole;
}

pub lowest_is : (most count low : ℕ) → IsLowest most count low → low ≡ lowest_place most count
unfolding lowest_place
lowest_is zero count low l = let under = l.under in omega (arith, under)
lowest_is (suc most) count low l = go (count % 10 ^ suc most == 0) refl (λ h. lowest_is most count low h)
  where
    go : (b : Bool) → (count % 10 ^ suc most == 0) ≡ b → (IsLowest most count low → low ≡ lowest_place most count) → low ≡ cond b (suc most) (lowest_place most count)
    go true e ih =
        let up = l.highest (suc most) (omega arith) (is_zero (count % 10 ^ suc most) e) in
        let under = l.under in
        omega (arith, up, under)
    go false e ih = ih (lowest_under most count low l (not_zero (count % 10 ^ suc most) e))

pub below_top : (count m : ℕ) → top count ≤ m → count < 10 ^ (m + 1)
below_top zero m h = tens_positive (m + 1)
below_top (suc n) m h =
    let below = (top_is (suc n) (omega arith)).below in
    let apart = tens_apart (suc (top (suc n))) (m + 1) (omega (arith, h)) in
    omega (arith, below, apart)

top_below : (count high : ℕ) → count < 10 ^ (high + 1) → top count ≤ high
top_below zero high h = omega arith
top_below (suc n) high h = ⊎_elim
    (λ above.
    let reaches = (top_is (suc n) (omega arith)).reaches in
    let apart = tens_apart (high + 1) (top (suc n)) (omega (arith, above)) in
    absurd (omega (arith, h, reaches, apart)))
    (λ below. below) (cases_lt high (top (suc n)))

pub highest_is : (least count high : ℕ) → IsHighest least 0 count high → high ≡ max least (top count)
highest_is least count high h =
    let keeps = h.keeps in
    let some = top_below count high h.holds in
    let up = h.lowest (max least (top count)) (omega arith) (omega arith) (below_top count (max least (top count)) (omega arith)) in
    omega (arith, keeps, some, up)

-- ---- the significand

by_carry : (b : Bool) (s : Number) (count exponent x : ℕ) (number : Number) → count ≡ s.count → exponent ≡ x → (b ≡ true → s ≡ plain_one) → (b ≡ false → IsPadded x number s) → s ≡ cond b plain_one (padded count exponent number)
by_carry true s count exponent x number same_count same_exponent carried padding = carried refl
by_carry false s count exponent x number same_count same_exponent carried padding =
    let p = padding refl in
    let low : s.low ≡ lowest_place 32768 count = lowest_is 32768 s.count s.low p.low ∙ ap (lowest_place 32768) (sym same_count) in
    let high : s.high ≡ max (max 32768 (number.high - exponent)) (top count) =
    highest_is (max 32768 (number.high - x)) s.count s.high p.high
    ∙ ap (λ c. max (max 32768 (number.high - x)) (top c)) (sym same_count)
    ∙ ap (λ e. max (max 32768 (number.high - e)) (top count)) (sym same_exponent) in
    λ i. record { count = sym same_count i; low = low i; high = high i }

pub significand_is : (entries : List CompactEntry) (number : Number) (s : ShownNumber) → Shows entries number s → s.significand ≡ significand_of entries number
significand_is entries number s shows =
    by_carry (is_carried 32768 entries number.count) s.significand (chosen 32768 entries number.count).count (chosen 32768 entries number.count).exponent s.exponent number
    (ap (λ c. c.count) shows.choice) (ap (λ c. c.exponent) shows.choice) shows.carried shows.padded

-- ---- the pattern

least_type : (least : ℕ) (xs : List CompactEntry) (i : ℕ) (x : CompactEntry) → Rises least xs → slice_get xs i ≡ Some x → least ≤ x.log10_type
least_type least [] i x rises is = absurd (cc)
least_type least (y ∷ ys) zero x rises is = let same : y ≡ x = cc in subst (λ z. least ≤ z.log10_type) same rises.0
least_type least (y ∷ ys) (suc i) x rises is =
    let h = least_type (suc y.log10_type) ys i x rises.2 is in
    let first = rises.0 in
    omega (arith, h, first)

same_test : (a b : ℕ) → a ≡ b → (a == b) ≡ true
same_test a b e = grind (arith, nat_tests)

other_test : (a b : ℕ) → a < b → (a == b) ≡ false
other_test a b h = grind (arith, nat_tests)

beside_type : (least : ℕ) (xs : List CompactEntry) (ps : List Patterns) (i : ℕ) (x : CompactEntry) → Rises least xs → slice_get xs i ≡ Some x → slice_get ps i ≡ patterns_of_type xs ps x.log10_type
beside_type least [] ps i x rises is = absurd (cc)
beside_type least (y ∷ ys) [] i x rises is = refl
beside_type least (y ∷ ys) (p ∷ ps) zero x rises is =
    let same : y ≡ x = cc in
    sym (ap (λ b. cond b (Some p) (patterns_of_type ys ps x.log10_type)) (same_test y.log10_type x.log10_type (ap (λ z. z.log10_type) same)))
beside_type least (y ∷ ys) (p ∷ ps) (suc i) x rises is =
    beside_type (suc y.log10_type) ys ps i x rises.2 is
    ∙ sym (ap (λ b. cond b (Some p) (patterns_of_type ys ps x.log10_type)) (other_test y.log10_type x.log10_type (least_type (suc y.log10_type) ys i x rises.2 is)))

beside_is : (t : CompactTable) (i : ℕ) (found : Option CompactEntry) → Rises 0 t.entries → slice_get t.entries i ≡ found → option_and_then (λ _. slice_get t.patterns i) found ≡ option_and_then (patterns_of t) found
beside_is t i None rises is = refl
beside_is t i (Some x) rises is = beside_type 0 t.entries t.patterns i x rises is

-- the pattern at an index is the one of its entry
pub pattern_is : (t : CompactTables) (index : Option ℕ) (o : Operands) → Rises 0 t.patterns.entries → pattern_at t index o ≡ pattern_of t (entry_of t.patterns.entries index) o
pattern_is t None o rises = refl
pattern_is t (Some i) o rises = ap (option_map (λ patterns. slot_of patterns t.rules o)) (beside_is t.patterns i (slice_get t.patterns.entries i) rises refl)

-- ---- what is shown

abbrev pub made_of : CompactTables → ShownNumber → CompactNumber
made_of t s = record { plain = record { number = s.significand; tables = t.plain }; exponent = s.exponent; pattern = pattern_at t s.entry (operands_of s.significand 0) }

pub shown_is : (t : CompactTables) (number : Number) (s : ShownNumber) → Rises 0 t.patterns.entries → Shows t.patterns.entries number s → made_of t s ≡ compact_of t number
shown_is t number s rises shows =
    let significand : s.significand ≡ significand_of t.patterns.entries number = significand_is t.patterns.entries number s shows in
    let exponent : s.exponent ≡ (chosen 32768 t.patterns.entries number.count).exponent = sym (ap (λ c. c.exponent) shows.choice) in
    let pattern : pattern_at t s.entry (operands_of s.significand 0) ≡ pattern_of t (chosen 32768 t.patterns.entries number.count).entry (operands_of (significand_of t.patterns.entries number) 0) =
    pattern_is t s.entry (operands_of s.significand 0) rises
    ∙ ap (λ e. pattern_of t e (operands_of s.significand 0)) (sym (ap (λ c. c.entry) shows.choice))
    ∙ ap (λ v. pattern_of t (chosen 32768 t.patterns.entries number.count).entry (operands_of v 0)) significand in
    λ i. record { plain = record { number = significand i; tables = t.plain }; exponent = exponent i; pattern = pattern i }
