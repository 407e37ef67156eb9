-- Which keys are kept, and which uses miss, said without going through the uses one by one.
-- Defined in docs/requests.md, "What a cache keeps".
-- Cited by the laws of `laws.rt`.
use Rattle.std.specs.Prelude.{ℕ, ◌≡◌, ◌↔◌, ◌+◌, Bool, true, List, [], ◌∷◌, ◌++◌, take, reverse, if◌then◌else◌}
use Rattle.locale_numbers_cache.specs.Recent.{has, without, recent_after, misses}

module _ {K : Type 0} (same : K → K → Bool) where
  -- the keys kept after these uses, the earliest first
  abbrev pub kept_after : ℕ → List K → List K → List K
  kept_after capacity recent [] = recent
  kept_after capacity recent (key ∷ keys) = kept_after capacity (recent_after same capacity recent key) keys

  -- each key once, where it is first
  abbrev pub distinct : List K → List K
  distinct [] = []
  distinct (key ∷ keys) = key ∷ without same key (distinct keys)

  -- of these uses, the earliest first, as many different keys as may be kept, the last used first
  abbrev pub last_used : ℕ → List K → List K
  last_used capacity keys = take capacity (distinct (reverse keys))

  -- the keys that are kept are those that were used last
  abbrev pub LastUsedAreKept : Type 0
  LastUsedAreKept = (capacity : ℕ) (keys : List K) → kept_after capacity [] keys ≡ last_used capacity keys

  -- a use misses where its key is not one of those used last before it
  abbrev pub UnusedKeysMiss : Type 0
  UnusedKeysMiss = (capacity : ℕ) (keys : List K) (key : K)
      → misses same capacity [] (keys ++ key ∷ []) ≡ misses same capacity [] keys + (if has same key (last_used capacity keys) then 0 else 1)

  -- keys are one exactly where the test says so
  abbrev pub EqualKeysAreOne : Type 0
  EqualKeysAreOne = (one other : K) → same one other ≡ true ↔ (one ≡ other)
