-- A list that is cut at the first element which passes a test, or nowhere.
use Rattle.std.proofs.Common.{refl, ◌≡◌, ℕ, ◌+◌, ◌-◌, ◌<◌, ◌≤◌, Bool, true, false, not, cond, nat_lt, List, [], ◌∷◌, length, take, drop, sym, ap, ◌∙◌, None, Some, arith}
use Rattle.std.specs.List.{position, position_or_len, prefix_len, slice_split, onto_first}
use Rattle.std.proofs.lemmas.Bool.Decides.{nat_tests}
use Rattle.std.proofs.lemmas.Grind.{common_steps}
use Rattle.std.proofs.lemmas.List.Splits.{slice_split_first}
use Rattle.std.proofs.lemmas.Option.{none-some, same_Some}

first_split : {X : Type 0} (p : X → Bool) (xs : List X) → position_or_len p xs < length xs → slice_split p xs ≡ take (position_or_len p xs) xs ∷ slice_split p (drop (position_or_len p xs + 1) xs)
first_split p [] l = absurd (omega arith)
first_split p (x ∷ xs) l = slice_split_first p (x ∷ xs) x l

some_at : {X : Type 0} (p : X → Bool) (xs : List X) (k : ℕ) (b : Bool) → nat_lt (position_or_len p xs) (length xs) ≡ b → cond b (Some (position_or_len p xs)) None ≡ Some k
    → slice_split p xs ≡ take k xs ∷ slice_split p (drop (k + 1) xs)
some_at p xs k true e h =
    let l : position_or_len p xs < length xs = grind (arith, nat_tests) in
    first_split p xs l ∙ ap (λ at. take at xs ∷ slice_split p (drop (at + 1) xs)) (same_Some (position_or_len p xs) k h)
some_at p xs k false e h = absurd (none-some k h)

pub split_at : {X : Type 0} (p : X → Bool) (xs : List X) (k : ℕ) → position p xs ≡ Some k
    → slice_split p xs ≡ take k xs ∷ slice_split p (take (length xs - (k + 1)) (drop (k + 1) xs))
split_at p xs k h =
    let behind : take (length xs - (k + 1)) (drop (k + 1) xs) ≡ drop (k + 1) xs = grind (arith, common_steps) in
    some_at p xs k (nat_lt (position_or_len p xs) (length xs)) refl h ∙ ap (λ rest. take k xs ∷ slice_split p rest) (sym behind)

-- where no element passes, there is one part
whole : {X : Type 0} (p : X → Bool) (xs : List X) → length xs ≤ position_or_len p xs → slice_split p xs ≡ xs ∷ []
whole p [] l = refl
whole p (x ∷ xs) l = by_test p x xs (p x) refl l (whole p xs) where
  by_test : {X : Type 0} (p : X → Bool) (x : X) (xs : List X) (b : Bool) → p x ≡ b → length (x ∷ xs) ≤ position_or_len p (x ∷ xs)
      → (length xs ≤ position_or_len p xs → slice_split p xs ≡ xs ∷ []) → slice_split p (x ∷ xs) ≡ (x ∷ xs) ∷ []
  by_test p x xs true e l ih =
      let none : position_or_len p (x ∷ xs) ≡ 0 = ap (λ b. cond (not b) (1 + prefix_len (λ y. not (p y)) xs) 0) e in absurd (omega arith)
  by_test p x xs false e l ih =
      let more : position_or_len p (x ∷ xs) ≡ 1 + position_or_len p xs = ap (λ b. cond (not b) (1 + prefix_len (λ y. not (p y)) xs) 0) e in
      ap (λ b. cond b ([] ∷ slice_split p xs) (onto_first x (slice_split p xs))) e ∙ ap (onto_first x) (ih (omega arith))

none_at : {X : Type 0} (p : X → Bool) (xs : List X) (b : Bool) → nat_lt (position_or_len p xs) (length xs) ≡ b → cond b (Some (position_or_len p xs)) None ≡ None → slice_split p xs ≡ xs ∷ []
none_at p xs true e h = absurd (none-some (position_or_len p xs) (sym h))
none_at p xs false e h = let l : length xs ≤ position_or_len p xs = grind (arith, nat_tests) in whole p xs l

pub split_nowhere : {X : Type 0} (p : X → Bool) (xs : List X) → position p xs ≡ None → slice_split p xs ≡ xs ∷ []
split_nowhere p xs h = none_at p xs (nat_lt (position_or_len p xs) (length xs)) refl h
