-- A list laid over another, one by one.
use Rattle.std.proofs.Common.{◌≡◌, ℕ, ◌≤◌, ◌<◌, ◌+◌, List, ◌∷◌, [], ◌++◌, length, map, take, drop, min, slice_index_or, slice_set, sym, ap, ◌∙◌, arith, inl, inr}
use Rattle.std.proofs.Math.Nat.{min-eq_left, min-eq_right}
use Rattle.std.proofs.lemmas.Bool.{cases_lt}
use Rattle.std.proofs.lemmas.List.{drop_all, take_all, take_more, take_more_set, take-append-drop, drop-drop, drop-set-lt, get_or-map, length-map}
use Rattle.legumeyet_c_values.specs.Parts.{over}

-- a list that has room
over_short : {T : Type 0} (items before : List T) → length items ≤ length before → take (length items) items ++ drop (length items) before ≡ over items before
over_short items before fits =
    ap (λ front. front ++ drop (length items) before) (take_all (length items) items (omega arith) ∙ sym (take_all (length before) items fits))

-- a longer one
over_long : {T : Type 0} (items before : List T) → length before ≤ length items → take (length before) items ++ drop (length before) before ≡ over items before
over_long items before fits =
    ap (λ behind. take (length before) items ++ behind) (drop_all (length before) before (omega arith) ∙ sym (drop_all (length items) before fits))

-- as many as both have are all that has room
pub over_most : {T : Type 0} (items before new : List T) (count : ℕ) → count ≡ min (length items) (length before) → take count new ≡ take count items → drop count new ≡ drop count before
    → new ≡ over items before
over_most items before new count is front behind =
    sym (take-append-drop count new) ∙ ap (λ xs. xs ++ drop count new) front ∙ ap (λ xs. take count items ++ xs) behind
    ∙ elim (cases_lt (length items) (length before)) [
      | inl short ↦ ap (λ n. take n items ++ drop n before) (is ∙ min-eq_left (omega (arith, short))) ∙ over_short items before (omega (arith, short))
      | inr long ↦ ap (λ n. take n items ++ drop n before) (is ∙ min-eq_right long) ∙ over_long items before long
    ]

-- one more of them
pub more_front : {X Y : Type 0} (f : X → Y) (items : List X) (new : List Y) (i : ℕ) (d : X) (y : Y) → i < length items → i < length new → take i new ≡ take i (map f items)
    → y ≡ f (slice_index_or items i d) → take (i + 1) (slice_set new i y) ≡ take (i + 1) (map f items)
more_front f items new i d y within room front is =
    take_more_set new i y room
    ∙ ap (λ xs. xs ++ y ∷ []) front
    ∙ ap (λ (x : _). take i (map f items) ++ x ∷ []) (is ∙ sym (get_or-map f items i d (f d) within))
    ∙ sym (take_more (map f items) i (f d) (omega (arith, length-map items f, within)))

-- the others stay
pub more_after : {Y : Type 0} (new before : List Y) (i : ℕ) (y : Y) → drop i new ≡ drop i before → drop (i + 1) (slice_set new i y) ≡ drop (i + 1) before
more_after new before i y behind =
    drop-set-lt (i + 1) new i y (omega arith)
    ∙ sym (drop-drop 1 i new) ∙ ap (λ xs. drop 1 xs) behind ∙ drop-drop 1 i before
