-- What a cache holds: each thing kept is the one that would be made now, and the count of things made follows the keys used.
-- Defined in docs/requests.md, "What a cache keeps".
-- Cited by `FormatterCache`: `new`, `keep`, `latest`, `made`.
use Rattle.std.specs.Prelude.{false, ℕ, ◌≡◌, ◌+◌, ◌-◌, ◌^◌, Bool, true, List, [], ◌∷◌, min, Option, None, Some, slice_get, Contains, refl, if◌then◌else◌}
use Rattle.std.specs.Coded.{Coded, code_by, coded×, coded_list, coded_ℕ}
use Rattle.std.specs.Map.{keys_of, lookup}
use Rattle.locale_numbers_cache.specs.Recent.{has, recent_after, misses}

-- keys and what is kept for them, the last used first, how many there may be, and how many things were made
pub record Cached (K F : Type 0) : Type 0 where
  pub entries : List (K × F)
  pub capacity : ℕ
  pub made : ℕ

-- the greatest count, at which a count stops
abbrev pub most : ℕ
most = 2 ^ 64 - 1

module _ {K F : Type 0} where
  abbrev pub cached : List (K × F) → ℕ → ℕ → Cached K F
  cached entries capacity made = record { entries = entries; capacity = capacity; made = made }

  -- it is stored as the triple of its fields
  abbrev pub cached_code : Coded K → Coded F → Coded (Cached K F)
  cached_code k f =
      code_by (List (K × F) × (ℕ × ℕ)) (coded× (coded_list (coded× k f)) (coded× coded_ℕ coded_ℕ)) (λ c. (c.entries, (c.capacity, c.made))) (λ p. cached p.0 p.1.0 p.1.1) (λ _. refl)

  -- whether the first key passes the test
  abbrev pub first_passes : (K → Bool) → List (K × F) → Bool
  first_passes test [] = false
  first_passes test (entry ∷ entries) = test entry.0

  -- the keys, the last used first
  abbrev pub recent_of : Cached K F → List K
  recent_of cache = keys_of cache.entries

  -- what is kept for a key, by a test of keys
  abbrev pub kept_for : (K → K → Bool) → K → Cached K F → Option F
  kept_for same key cache = lookup (same key) cache.entries

  -- what is still kept for a key is what was kept for it
  abbrev pub StillKept : (K → K → Bool) → Cached K F → Cached K F → Type 0
  StillKept same old new = (key : K) (kept : F) → kept_for same key old ≡ Some kept → has same key (recent_of new) ≡ true → kept_for same key new ≡ Some kept

  -- what is kept for each key is what would be made for it now
  abbrev pub IsSound : (K → Bool) → (K → F → Type 0) → Cached K F → Type 0
  IsSound finds is_made cache = (key : K) (kept : F) → Contains cache.entries (key, kept) → (finds key ≡ true) × is_made key kept

  -- what was used last is the thing made for this key
  pub record IsLatest (is_made : K → F → Type 0) (key : K) (cache : Cached K F) : Type 0 where
    pub kept : F
    pub first : slice_get cache.entries 0 ≡ Some (key, kept)
    pub right : is_made key kept

  -- the key was used last
  abbrev pub IsFirst : K → Cached K F → Type 0
  IsFirst key cache = slice_get (recent_of cache) 0 ≡ Some key

module _ {K : Type 0} where
  -- the keys that use the cache: of lines that have one, those for which something is found
  abbrev pub used : (K → Bool) → List (Option K) → List K
  used finds [] = []
  used finds (None ∷ keys) = used finds keys
  used finds (Some key ∷ keys) = if finds key then key ∷ used finds keys else used finds keys

module _ {K F : Type 0} (same : K → K → Bool) (finds : K → Bool) where
  -- the keys kept after a use of the key
  abbrev pub recent_with : Cached K F → K → List K
  recent_with cache key = if finds key then recent_after same cache.capacity (recent_of cache) key else recent_of cache

  -- how many things will have been made once lines with these keys were answered
  abbrev pub made_over : Cached K F → List (Option K) → ℕ
  made_over cache keys = min (cache.made + misses same cache.capacity (recent_of cache) (used finds keys)) most

  -- a use of the key leaves the keys kept, and the count, as they are
  pub record ChangesNothing (key : K) (cache : Cached K F) : Type 0 where
    pub recent : recent_with cache key ≡ recent_of cache
    pub ahead : (more : List (Option K)) → made_over cache (Some key ∷ more) ≡ made_over cache more
