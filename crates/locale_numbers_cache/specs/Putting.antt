-- A thing that was made for a key is the first entry.
-- Defined in docs/requests.md, "What a cache keeps".
-- Cited by the private step `put_made` of `FormatterCache::keep`.
use Rattle.std.specs.Prelude.{◌≡◌, Bool}
use Rattle.lru.specs.LruCache.{LruCache, lru_cache, put_entries}

module _ {K F : Type 0} (same : K → K → Bool) (is_made : K → F → Type 0) where
  -- what was made for the key, and what is kept with it
  pub record IsPut (key : K) (old new : LruCache K F) : Type 0 where
    pub kept : F
    pub right : is_made key kept
    pub put : new ≡ lru_cache (put_entries same old key kept) old.cap
