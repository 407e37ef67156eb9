-- The lists in a `PartsSink`, as intervals.
use Rattle.std.proofs.Common.{◌≡◌, ◌≢◌, IsSomeAnd, ℕ, ◌+◌, ◌-◌, ◌<◌, List, [], ◌∷◌, ◌++◌, length, map, take, drop, get_or, insert, cond, Bool, true, false, Some, None, refl, sym, ◌∙◌, ap, subst, arith}
use Rattle.std.specs.List.{slice_get}
use Rattle.std.proofs.lemmas.List.{map-append, take-map, drop-map, take_all, take_more, append-nil}
use Rattle.std.proofs.lemmas.Option.{slice_get_within, get_or_from_slice_get, slice_get-get_or}
use Rattle.writeable.specs.AnnotatedText.{Event, opened, closed, bytes, opening, closing}
use Rattle.writeable.specs.PartName.{PartName}
use Rattle.writeable.specs.HeldParts.{Held, HeldParts, OpenInterval, held_after, HoldsThen, NeedsRoom}
use Rattle.writeable.specs.Taking.{HasBegun}

-- nothing changed
pub holds_same : (s t : Held) (before : List Event) → s ≡ held_after before
    → t.text ≡ s.text → t.parts ≡ s.parts → t.open_parts ≡ s.open_parts → t ≡ held_after (before ++ [])
holds_same s t before is one two three =
    (λ i. record { text = one i; parts = two i; open_parts = three i }) ∙ is ∙ ap held_after (sym (append-nil before))

-- nothing was taken, and the first event needs room
begun_by_nothing : (s t : HeldParts) (es : List Event) → HoldsThen s [] t → NeedsRoom t es → HasBegun HoldsThen NeedsRoom s es t
begun_by_nothing s t es same needs = record { front = []; rest = es; whole = refl; taken = same; short = needs }

needs_room_bytes : (t : HeldParts) (text : List ℕ) → 0 < length text → NeedsRoom t (bytes text)
unfolding bytes
needs_room_bytes t [] some = absurd (omega arith)
needs_room_bytes t (b ∷ text) some = tt

pub refused_bytes : (s t : HeldParts) (text : List ℕ) → 0 < length text → HoldsThen s [] t → HasBegun HoldsThen NeedsRoom s (bytes text) t
refused_bytes s t text some same = begun_by_nothing s t (bytes text) same (needs_room_bytes t text some)

pub refused_opening : (s t : HeldParts) (part : PartName) → HoldsThen s [] t → HasBegun HoldsThen NeedsRoom s (opening part) t
unfolding opening
refused_opening s t part same = begun_by_nothing s t (opened part ∷ []) same tt

-- the part that was opened last has bytes
pub refused_closing : (s t : HeldParts) (last : OpenInterval) → HoldsThen s [] t
    → slice_get t.held.open_parts (length t.held.open_parts - 1) ≡ Some last → last.start ≢ length t.held.text
    → HasBegun HoldsThen NeedsRoom s closing t
unfolding closing
refused_closing s t last same found differs = begun_by_nothing s t (closed ∷ []) same
    (subst (λ it. IsSomeAnd it (λ o. o.start ≢ length t.held.text)) (sym found) differs)

module _ {X : Type 0} where
  -- the last of a list, and what is before it
  pub split_last : (xs : List X) (x : X) → slice_get xs (length xs - 1) ≡ Some x → xs ≡ take (length xs - 1) xs ++ x ∷ []
  split_last xs x last =
      let within : length xs - 1 < length xs = slice_get_within xs (length xs - 1) x last in
      sym (take_all (length xs - 1 + 1) xs (omega arith)) ∙ take_more xs (length xs - 1) x within
      ∙ ap (λ item. take (length xs - 1) xs ++ item ∷ []) (get_or_from_slice_get xs (length xs - 1) x x last)

  -- a list that has no last is empty
  pub no_last : (xs : List X) → slice_get xs (length xs - 1) ≡ None → xs ≡ []
  no_last [] none = refl
  no_last (x ∷ xs) none =
      let found : slice_get (x ∷ xs) (length (x ∷ xs) - 1) ≡ Some (get_or (x ∷ xs) (length (x ∷ xs) - 1) x)
      = slice_get-get_or (x ∷ xs) (length (x ∷ xs) - 1) x (omega arith) in
      cc

-- an interval put into a list
pub map_insert : {X Y : Type 0} (f : X → Y) (xs : List X) (i : ℕ) (x : X) → map f (insert xs i x) ≡ insert (map f xs) i (f x)
map_insert f xs i x = map-append f (take i xs) (x ∷ drop i xs)
    ∙ ap (λ front. front ++ f x ∷ map f (drop i xs)) (sym (take-map f i xs))
    ∙ ap (λ back. take i (map f xs) ++ f x ∷ back) (sym (drop-map f i xs))

-- or left out
pub map_listed : {X Y : Type 0} (f : X → Y) (b : Bool) (xs : List X) (i : ℕ) (x : X)
    → map f (cond b xs (insert xs i x)) ≡ cond b (map f xs) (insert (map f xs) i (f x))
map_listed f true xs i x = refl
map_listed f false xs i x = map_insert f xs i x
