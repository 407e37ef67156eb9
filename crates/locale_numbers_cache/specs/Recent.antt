-- Which keys are kept: those that were used last, up to a capacity; and how many uses find their key not kept.
-- Defined in docs/requests.md, "What a cache keeps".
-- Cited by `FormatterCache::keep`, itself and through Cached.antt, and by the laws of `laws.rt`.
use Rattle.std.specs.Prelude.{ℕ, ◌+◌, Bool, List, [], ◌∷◌, take, if◌then◌else◌}
use Rattle.std.specs.List.{list_any}

module _ {K : Type 0} (same : K → K → Bool) where
  -- whether the key is one of these
  abbrev pub has : K → List K → Bool
  has key keys = list_any (same key) keys

  -- the keys without this one
  abbrev pub without : K → List K → List K
  without key [] = []
  without key (other ∷ keys) = if same key other then keys else other ∷ without key keys

  -- the keys kept, the last used first, after the use of a key: it goes to the front, and past the capacity the last is dropped
  abbrev pub recent_after : ℕ → List K → K → List K
  recent_after capacity recent key = take capacity (key ∷ without key recent)

  -- how many of these uses, the earliest first, find their key not kept
  abbrev pub misses : ℕ → List K → List K → ℕ
  misses capacity recent [] = 0
  misses capacity recent (key ∷ keys) = (if has key recent then 0 else 1) + misses capacity (recent_after capacity recent key) keys
