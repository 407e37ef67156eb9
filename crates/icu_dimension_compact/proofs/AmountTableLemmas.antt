-- Tables of compact amounts: entries without a fault rise, and the patterns at an index are those of its entry.
use Rattle.std.proofs.Common.{◌≡◌, ℕ, zero, suc, ◌+◌, ◌<◌, ◌≤◌, ◌==◌, Bool, true, false, ◌&&◌, not, cond, length, List, [], ◌∷◌, Option, None, Some, slice_get, refl, sym, ap, ◌∙◌, subst, arith}
use Rattle.std.specs.Prelude.{nat_le}
use Rattle.std.specs.Option.{option_and_then}
use Rattle.std.proofs.lemmas.Bool.Decides.{nat_tests}
use Rattle.icu_decimal_compact_value.specs.declared.entry.CompactEntry.{CompactEntry}
use Rattle.icu_decimal_compact_value.specs.Choice.{entry_of}
use Rattle.icu_decimal_compact_value.specs.Entries.{IsEntry, Rises}
use Rattle.icu_dimension_compact.specs.declared.error.ShortCurrencyCompactError.{ShortCurrencyCompactError}
use Rattle.icu_dimension_compact.specs.declared.error.ShortCurrencyCompactError.TheVariants.{Lengths, Types, Exponents}
use Rattle.icu_dimension_compact.specs.AmountTables.{AmountPatterns, AmountTable, beside_entry, beside_type, fit_from, fits, patterns_at, patterns_of, rise_from, table_fault}

-- ---- without a fault

at_least : (a b : ℕ) → nat_le a b ≡ true → a ≤ b
at_least a b h = grind (arith, nat_tests)

left_of : (a b : Bool) → (a && b) ≡ true → a ≡ true
left_of true b h = refl
left_of false b h = cc

right_of : (a b : Bool) → (a && b) ≡ true → b ≡ true
right_of true b h = h
right_of false b h = cc

is_entry : (x : CompactEntry) → fits x ≡ true → IsEntry x
is_entry x h = record {
  within = at_least x.exponent x.log10_type (left_of (nat_le x.exponent x.log10_type) (nat_le x.log10_type (x.exponent + 15)) h);
  zeros = at_least x.log10_type (x.exponent + 15) (right_of (nat_le x.exponent x.log10_type) (nat_le x.log10_type (x.exponent + 15)) h);
}

pub they_rise : (least low : ℕ) (xs : List CompactEntry) → rise_from least xs ≡ true → fit_from low xs ≡ true → Rises least xs
they_rise least low [] rise fit = tt
they_rise least low (x ∷ xs) rise fit =
    let front = left_of (nat_le low x.exponent && fits x) (fit_from x.exponent xs) fit in (
      at_least least x.log10_type (left_of (nat_le least x.log10_type) (rise_from (suc x.log10_type) xs) rise),
      is_entry x (right_of (nat_le low x.exponent) (fits x) front),
      they_rise (suc x.log10_type) x.exponent xs (right_of (nat_le least x.log10_type) (rise_from (suc x.log10_type) xs) rise) (right_of (nat_le low x.exponent && fits x) (fit_from x.exponent xs) fit),
    )

-- ---- the patterns at an index

same_type : (a b : ℕ) → a ≡ b → (a == b) ≡ true
same_type a b e = grind (arith, nat_tests)

other_type : (a b : ℕ) → a < b → (a == b) ≡ false
other_type a b h = grind (arith, nat_tests)

least_type : (least : ℕ) (xs : List CompactEntry) (i : ℕ) (x : CompactEntry) → Rises least xs → slice_get xs i ≡ Some x → least ≤ x.log10_type
least_type least [] i x rises is = absurd (cc)
least_type least (y ∷ ys) zero x rises is = let same : y ≡ x = cc in subst (λ z. least ≤ z.log10_type) same rises.0
least_type least (y ∷ ys) (suc i) x rises is =
    let h = least_type (suc y.log10_type) ys i x rises.2 is in
    let first = rises.0 in
    omega (arith, h, first)

-- an entry after the first one has another type
after_first : (y : CompactEntry) (ys : List CompactEntry) (p : AmountPatterns) (ps : List AmountPatterns) (i : ℕ) (found : Option CompactEntry)
    → Rises (suc y.log10_type) ys → slice_get ys i ≡ found → beside_entry ys ps found ≡ beside_entry (y ∷ ys) (p ∷ ps) found
after_first y ys p ps i None rises is = refl
after_first y ys p ps i (Some x) rises is =
    sym (ap (λ b. cond b p (beside_type ys ps x.log10_type)) (other_type y.log10_type x.log10_type (least_type (suc y.log10_type) ys i x rises is)))

no_length : (n : ℕ) → 0 ≡ suc n → ⊥
no_length n h = omega (arith, h)

less_one : (a b : ℕ) → suc a ≡ suc b → a ≡ b
less_one a b h = omega (arith, h)

pub held_beside : (least : ℕ) (xs : List CompactEntry) (ps : List AmountPatterns) (i : ℕ) → Rises least xs → length xs ≡ length ps
    → patterns_at ps i ≡ beside_entry xs ps (slice_get xs i)
held_beside least [] [] i rises alike = refl
held_beside least [] (p ∷ ps) i rises alike = absurd (no_length (length ps) alike)
held_beside least (y ∷ ys) [] i rises alike = absurd (no_length (length ys) (sym alike))
held_beside least (y ∷ ys) (p ∷ ps) zero rises alike = sym (ap (λ b. cond b p (beside_type ys ps y.log10_type)) (same_type y.log10_type y.log10_type refl))
held_beside least (y ∷ ys) (p ∷ ps) (suc i) rises alike =
    held_beside (suc y.log10_type) ys ps i rises.2 (less_one (length ys) (length ps) alike)
    ∙ after_first y ys p ps i (slice_get ys i) rises.2 refl

pub patterns_are : (t : AmountTable) (index : Option ℕ) → Rises 0 t.entries → length t.entries ≡ length t.patterns
    → option_and_then (patterns_at t.patterns) index ≡ patterns_of t (entry_of t.entries index)
patterns_are t None rises alike = refl
patterns_are t (Some i) rises alike = held_beside 0 t.entries t.patterns i rises alike

-- ---- a table without a fault

abbrev of_fault : Bool → Bool → Bool → Option ShortCurrencyCompactError
of_fault l r f = cond (not l) (Some Lengths) (cond (not r) (Some Types) (cond (not f) (Some Exponents) None))

all_hold : (l r f : Bool) → of_fault l r f ≡ None → (l ≡ true) × (r ≡ true) × (f ≡ true)
all_hold true true true is = (refl, refl, refl)
all_hold true true false is = cc
all_hold true false f is = cc
all_hold false r f is = cc

as_long : (a b : ℕ) → (a == b) ≡ true → a ≡ b
as_long a b h = grind (arith, nat_tests)

module _ (entries : List CompactEntry) (patterns : List AmountPatterns) (sound : table_fault entries patterns ≡ None) where
  hold : ((length entries == length patterns) ≡ true) × (rise_from 0 entries ≡ true) × (fit_from 0 entries ≡ true)
  hold = all_hold (length entries == length patterns) (rise_from 0 entries) (fit_from 0 entries) sound

  pub sound_rises : Rises 0 entries
  sound_rises = they_rise 0 0 entries hold.1 hold.2

  pub sound_lengths : length entries ≡ length patterns
  sound_lengths = as_long (length entries) (length patterns) hold.0
