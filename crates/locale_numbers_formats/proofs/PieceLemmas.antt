-- The pieces of a text by its first separator.
use Rattle.std.proofs.Common.{◌≡◌, ◌∷◌, [], ◌<◌, ◌+◌, ◌-◌, ℕ, List, Some, None, Bool, true, false, length, take, drop, position, refl, arith, nat_lt, cond, not}
use Rattle.std.specs.List.{slice_split, position_or_len, onto_first}
use Rattle.std.proofs.lemmas.Grind.{common_steps}
use Rattle.std.proofs.lemmas.Bool.Decides.{nat_tests}
use Rattle.std.proofs.lemmas.List.Splits.{slice_split_first}
use Rattle.locale_numbers_formats.specs.Cutting.{is_separator, cut_at}

-- a choice that is nothing, or something
none_is : (b : Bool) (i : ℕ) → None ≡ cond b (Some i) None → b ≡ false
none_is true i none = cc
none_is false i none = refl

some_is : (b : Bool) (i end : ℕ) → Some end ≡ cond b (Some i) None → (b ≡ true) × (end ≡ i)
some_is true i end some = (refl, (cc))
some_is false i end some = cc

-- where no element passes, one piece is left
whole : {A : Type 0} (p : A → Bool) (xs : List A) → nat_lt (position_or_len p xs) (length xs) ≡ false → slice_split p xs ≡ xs ∷ []
whole p [] none = refl
whole p (x ∷ xs) none = at (p x) none (whole p xs)
  where
    at : (b : Bool) → nat_lt (cond (not b) (1 + position_or_len p xs) 0) (length (x ∷ xs)) ≡ false
        → (nat_lt (position_or_len p xs) (length xs) ≡ false → slice_split p xs ≡ xs ∷ [])
        → cond b ([] ∷ slice_split p xs) (onto_first x (slice_split p xs)) ≡ (x ∷ xs) ∷ []
    at true none rest = absurd (grind (arith, nat_tests))
    at false none rest = rw (rest (grind (arith, nat_tests)))

-- with no separator, a text is one piece
pub fields_none : (separator : ℕ) (text : List ℕ) → None ≡ position (is_separator separator) text → cut_at separator text ≡ text ∷ []
fields_none separator text none = whole (is_separator separator) text (none_is _ _ none)

-- with one, the first piece is before it
pub fields_some : (separator : ℕ) (text : List ℕ) (end : ℕ) → Some end ≡ position (is_separator separator) text
    → cut_at separator text ≡ take end text ∷ cut_at separator (take (length text - (end + 1)) (drop (end + 1) text))
fields_some separator text end some =
    let at = some_is _ _ _ some in
    let lt : position_or_len (is_separator separator) text < length text = grind (arith, nat_tests) in
    let rest : take (length text - (end + 1)) (drop (end + 1) text) ≡ drop (end + 1) text = grind (arith, common_steps) in
    rw (rest, at.1) (slice_split_first (is_separator separator) text 0 lt)

-- what follows a place that is found
pub rest_of : (text : List ℕ) (end : ℕ) → take (length text - (end + 1)) (drop (end + 1) text) ≡ drop (end + 1) text
rest_of text end = grind (arith, common_steps)
