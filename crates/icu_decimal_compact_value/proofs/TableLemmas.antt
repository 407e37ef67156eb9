-- The entry of a magnitude, found from the back of a table on.
use Rattle.std.proofs.Common.{◌≡◌, ℕ, zero, suc, ◌+◌, ◌<◌, ◌≤◌, Bool, true, false, cond, nat_lt, nat_le, List, [], ◌∷◌, length, drop, drop-cons, get_or, None, Some, refl, sym, ap, ◌∙◌, arith}
use Rattle.std.specs.List.{find, position, position_or_len}
use Rattle.std.specs.Option.{option_or}
use Rattle.std.proofs.lemmas.Bool.Decides.{nat_tests}
use Rattle.std.proofs.lemmas.List.Folds.{find_at}
use Rattle.std.proofs.lemmas.Option.{slice_get-get_or, slice_get_past}
use Rattle.icu_decimal_compact_value.specs.declared.entry.CompactEntry.{CompactEntry}
use Rattle.icu_decimal_compact_value.specs.Choice.{entry_at, entry_of}

-- what an entry and those after it are asked for, the whole table is
whole_some : (ones : ℕ) (entries : List CompactEntry) (place i : ℕ) (x : CompactEntry) → entry_at ones (drop i entries) place ≡ Some x → entry_at ones entries place ≡ Some x
whole_some ones [] place zero x is = is
whole_some ones [] place (suc i) x is = is
whole_some ones (y ∷ ys) place zero x is = is
whole_some ones (y ∷ ys) place (suc i) x is = ap (λ o. option_or o (cond (nat_le (ones + y.log10_type) place) (Some y) None)) (whole_some ones ys place i x is)

module _ (ones : ℕ) (entries : List CompactEntry) (place i : ℕ) (d : CompactEntry) (l : i < length entries) where
  unrolled : entry_at ones (drop i entries) place ≡ option_or (entry_at ones (drop (suc i) entries) place) (cond (nat_le (ones + (get_or entries i d).log10_type) place) (Some (get_or entries i d)) None)
  unrolled = ap (λ xs. entry_at ones xs place) (drop-cons entries i d l)

  -- after the index no entry is reached, and the one at it is
  module _ (next : ℕ) (behind : next ≡ suc i) (none : entry_at ones (drop next entries) place ≡ None) where
    at : (b : Bool) → nat_le (ones + (get_or entries i d).log10_type) place ≡ b → entry_at ones (drop i entries) place ≡ cond b (Some (get_or entries i d)) None
    at b test =
        unrolled
        ∙ ap (λ o. option_or o (cond (nat_le (ones + (get_or entries i d).log10_type) place) (Some (get_or entries i d)) None)) (ap (λ k. entry_at ones (drop k entries) place) (sym behind) ∙ none)
        ∙ ap (λ t. cond t (Some (get_or entries i d)) None) test

    pub reached : ones + (get_or entries i d).log10_type ≤ place → entry_of entries (Some i) ≡ entry_at ones entries place
    reached h =
        let yes : nat_le (ones + (get_or entries i d).log10_type) place ≡ true = grind (arith, nat_tests) in
        slice_get-get_or entries i d l ∙ sym (whole_some ones entries place i (get_or entries i d) (at true yes))

pub found_at : (p : CompactEntry → Bool) (xs : List CompactEntry) → entry_of xs (position p xs) ≡ find p xs
found_at p xs = go (nat_lt (position_or_len p xs) (length xs)) refl
  where
    go : (b : Bool) → nat_lt (position_or_len p xs) (length xs) ≡ b → entry_of xs (cond b (Some (position_or_len p xs)) None) ≡ find p xs
    go true e = sym (find_at p xs)
    go false e = let h : length xs ≤ position_or_len p xs = grind (arith, nat_tests, e) in sym (find_at p xs ∙ slice_get_past xs (position_or_len p xs) h)
