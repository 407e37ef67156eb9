-- Pairs of places that remember nothing: one more of them, and that what they keep is right; and bytes that came last.
use Rattle.std.proofs.Common.{◌≡◌, ℕ, ◌<◌, ◌||◌, true, List, [], ◌∷◌, ◌++◌, length, Option, Some, None, IfSome, All, get_or, set, slice_get, refl, sym, ap, ◌∙◌, subst}
use Rattle.std.proofs.lemmas.List.{get_or-set_same, length-set}
use Rattle.std.proofs.lemmas.List.Elements.{All-get_or, All-push, All-same, All-weaker}
use Rattle.std.proofs.lemmas.Bool.{false≢true}
use Rattle.std.proofs.lemmas.Option.{get_or_from_slice_get, slice_get-get_or, slice_get_read, slice_get_within}
use Rattle.std.proofs.lemmas.Slice.Eq.{bytes_eq-Decides}
use Rattle.locale_numbers_cache.specs.LastRead.{AreRead, IsLastAt, IsLastOf, IsRead, Place, Remembered, Uses, either_remembers, key_at, latest_at, latest_in, pair_at, remembered, remembers}

module _ {K : Type 0} where
  abbrev pub Forgets : Place K × Place K → Type 0
  Forgets pair = pair ≡ (None, None)

  pub one_more_forgets : (pairs more : List (Place K × Place K)) (pair : Place K × Place K) → more ≡ pairs ++ pair ∷ [] → All Forgets pairs → Forgets pair → All Forgets more
  one_more_forgets pairs more pair grew all one = All-same Forgets more (pairs ++ pair ∷ []) grew (All-push Forgets pairs pair all one)

  forgets_is_read : (key_of : List ℕ → K) (pair : Place K × Place K) → Forgets pair → AreRead key_of pair
  forgets_is_read key_of pair none = subst (AreRead key_of) (sym none) (tt {0}, tt {0})

  pub forget_are_read : (key_of : List ℕ → K) (pairs : List (Place K × Place K)) → All Forgets pairs → All (AreRead key_of) pairs
  forget_are_read key_of pairs all = All-weaker Forgets (AreRead key_of) (forgets_is_read key_of) pairs all

  -- the place that remembers bytes, and their key there
  pub record Keeps (bytes : List ℕ) (place : Place K) : Type 0 where
    pub key : K
    pub kept : place ≡ Some (bytes, key)

  keeps : (bytes : List ℕ) (place : Place K) → remembers bytes place ≡ true → Keeps bytes place
  keeps bytes None is = absurd (false≢true is)
  keeps bytes (Some kept) is = record { key = kept.1; kept = ap (λ first. Some (first, kept.1)) ((bytes_eq-Decides kept.0 bytes).0 is) }

  -- bytes that the last pair used last came last
  pub is_last : (last : ℕ) (pairs : List (Place K × Place K)) (long : Option K) (bytes : List ℕ) (pair : Place K × Place K) → IsLastAt last pairs → slice_get pairs last ≡ Some pair
      → remembers bytes pair.0 ≡ true → IsLastOf bytes (remembered pairs (latest_at last pairs long))
  is_last last pairs long bytes pair right at is =
      let place = keeps bytes pair.0 is in
      let here = subst (λ place. IfSome place (λ kept. pair_at kept.0 ≡ last)) place.kept
      (subst (λ found. IfSome found (λ pair. IfSome pair.0 (λ kept. pair_at kept.0 ≡ last))) at right) in
      record {
        pair = pair;
        key = place.key;
        at = ap (slice_get pairs) here ∙ at;
        last = place.kept;
        latest = ap (λ found. latest_in found long) at ∙ ap key_at place.kept;
      }

  -- what every pair of the list is, the one of a place is
  pub read_at : (key_of : List ℕ → K) (pairs : List (Place K × Place K)) (at : ℕ) (pair : Place K × Place K) → slice_get pairs at ≡ Some pair → All (AreRead key_of) pairs → AreRead key_of pair
  read_at key_of pairs at pair found all =
      subst (AreRead key_of) (get_or_from_slice_get pairs at pair pair found) (All-get_or (AreRead key_of) pairs at pair (slice_get_within pairs at pair found) all)

  -- the key of bytes that came last is the one that is read
  pub last_key : (key_of : List ℕ → K) (bytes : List ℕ) (keys : Remembered K) → All (AreRead key_of) keys.pairs → IsLastOf bytes keys → keys.latest ≡ Some (key_of bytes)
  last_key key_of bytes keys all last =
      last.latest ∙ ap Some (subst (IsRead key_of) last.last (read_at key_of keys.pairs (pair_at bytes) last.pair last.at all).0)

  -- a use of bytes that came last leaves the pair as it is
  pub last_used : (key_of : List ℕ → K) (bytes : List ℕ) (keys : Remembered K) → All (AreRead key_of) keys.pairs → IsLastOf bytes keys
      → IfSome (slice_get keys.pairs (pair_at bytes)) (λ old. IfSome (slice_get keys.pairs (pair_at bytes)) (λ new. Uses bytes (key_of bytes) old new))
  last_used key_of bytes keys all last =
      let read : last.key ≡ key_of bytes = subst (IsRead key_of) last.last (read_at key_of keys.pairs (pair_at bytes) last.pair last.at all).0 in
      let there : remembers bytes last.pair.0 ≡ true = ap (remembers bytes) last.last ∙ (bytes_eq-Decides bytes bytes).1 refl in
      let uses : Uses bytes (key_of bytes) last.pair last.pair = record { last = last.last ∙ ap (λ key. Some (bytes, key)) read; other = λ not. absurd (false≢true (sym not ∙ there)) } in
      subst (λ found. IfSome found (λ old. IfSome found (λ new. Uses bytes (key_of bytes) old new))) (sym last.at) uses

  -- the place that was used last by bytes remembers them
  used_remembers : (bytes : List ℕ) (key : K) (pair : Place K × Place K) → pair.0 ≡ Some (bytes, key) → either_remembers bytes pair ≡ true
  used_remembers bytes key pair last =
      ap (λ place. remembers bytes place || remembers bytes pair.1) last ∙ ap (λ b. b || remembers bytes pair.1) ((bytes_eq-Decides bytes bytes).1 refl)

  pub used_is_kept : (bytes : List ℕ) (key : K) (pair : Place K × Place K) (pairs : List (Place K × Place K)) → slice_get pairs (pair_at bytes) ≡ Some pair → pair.0 ≡ Some (bytes, key)
      → IfSome (slice_get pairs (pair_at bytes)) (λ pair. either_remembers bytes pair ≡ true)
  used_is_kept bytes key pair pairs at last =
      subst (λ found. IfSome found (λ pair. either_remembers bytes pair ≡ true)) (sym at) (used_remembers bytes key pair last)

  -- after a use the pair of the bytes is the last one
  pub used_last : (pairs : List (Place K × Place K)) (bytes : List ℕ) (key : K) (at : ℕ) (old new : Place K × Place K) → slice_get pairs at ≡ Some new → at ≡ pair_at bytes
      → Uses bytes key old new → IsLastAt at pairs
  used_last pairs bytes key at old new found is used =
      subst (λ found. IfSome found (λ pair. IfSome pair.0 (λ kept. pair_at kept.0 ≡ at))) (sym found)
      (subst (λ place. IfSome place (λ kept. pair_at kept.0 ≡ at)) (sym used.last) (sym is))

  -- ---- one pair of the 512 is used

  module _ (items : List (Place K × Place K)) (at : ℕ) (old : Place K × Place K) (size : length items ≡ 512) (within : at < 512) (was : old ≡ get_or items at old) where
    there : at < length items
    there = subst (λ n. at < n) (sym size) within

    pub old_read : (key_of : List ℕ → K) → All (AreRead key_of) items → AreRead key_of old
    old_read key_of all = subst (AreRead key_of) (sym was) (All-get_or (AreRead key_of) items at old there all)

    module _ (bytes : List ℕ) (here : at ≡ pair_at bytes) where
      was_at : slice_get items (pair_at bytes) ≡ Some old
      was_at = ap (slice_get items) (sym here) ∙ slice_get_read items 512 at old (sym size) within was

      -- what is remembered there the pair remembers
      pub old_remembers : IfSome (slice_get items (pair_at bytes)) (λ pair. either_remembers bytes pair ≡ true) → either_remembers bytes old ≡ true
      old_remembers remembered = subst (λ found. IfSome found (λ pair. either_remembers bytes pair ≡ true)) was_at remembered

      module _ (new : Place K × Place K) (key : K) (used : Uses bytes key old new) where
        is_there : slice_get (set items at new) at ≡ Some new
        is_there =
            slice_get-get_or (set items at new) at new (subst (λ n. at < n) (sym (length-set items at new)) there)
            ∙ ap Some (get_or-set_same items at new new there)

        pub both_used : IfSome (slice_get items (pair_at bytes)) (λ old. IfSome (slice_get (set items at new) (pair_at bytes)) (λ new. Uses bytes key old new))
        both_used =
            subst (λ found. IfSome found (λ old. IfSome (slice_get (set items at new) (pair_at bytes)) (λ new. Uses bytes key old new))) (sym was_at)
            (subst (λ found. IfSome found (λ new. Uses bytes key old new)) (sym (ap (slice_get (set items at new)) (sym here) ∙ is_there)) used)

        -- and is then the last, with the latest key
        pub now_last : (length (set items at new) ≡ 512) × IsLastAt at (set items at new)
        now_last = (length-set items at new ∙ size, used_last (set items at new) bytes key at old new is_there here used)

        pub now_latest : (long : Option K) → latest_at at (set items at new) long ≡ Some key
        now_latest long = ap (λ found. latest_in found long) is_there ∙ ap key_at used.last

        -- where the bytes are remembered
        pub now_kept : IfSome (slice_get (set items at new) (pair_at bytes)) (λ pair. either_remembers bytes pair ≡ true)
        now_kept = used_is_kept bytes key new (set items at new) (ap (slice_get (set items at new)) (sym here) ∙ is_there) used.last
