-- What the two ways of keeping leave: a promoted entry, and a new one in front.
use Rattle.std.proofs.Common.{◌≡◌, ℕ, ◌+◌, ◌-◌, ◌<◌, ◌≤◌, min, Bool, true, false, if◌then◌else◌, inl, inr, List, [], ◌∷◌, length, take, slice_get, Option, Some, None, refl, sym, ap, ◌∙◌, subst, arith}
use Rattle.std.specs.Option.{is_some}
use Rattle.std.specs.Map.{keys_of, lookup, lookup_entry, remove_entry}
use Rattle.std.proofs.lemmas.Map.Entries.{length-keys_of}
use Rattle.std.proofs.lemmas.List.{length-take, take-map}
use Rattle.lru.specs.LruCache.{LruCache, lru_cache, promoted, put_entries}
use Rattle.lru.proofs.CallerLemmas.{Contains-promoted, Contains-put_entries, Contains-lookup_entry}
use Rattle.locale_numbers_cache.specs.Recent.{has, without, recent_after, misses}
use Rattle.locale_numbers_cache.specs.Cached.{Cached, cached, most, recent_of, recent_with, made_over, used, ChangesNothing, IsFirst, IsSound, IsLatest, StillKept}
use Rattle.locale_numbers_cache.proofs.KeptForLemmas.{kept_promoted, kept_put}
use Rattle.locale_numbers_cache.proofs.RecentLemmas.{keys_of-remove_entry, has-entry, has-none, entry_of, no_entry_of, recent_after-hit, recent_after-miss}

module _ {K F : Type 0} (same : K → K → Bool) (finds : K → Bool) (is_made : K → F → Type 0) where
  -- what a use of a key leaves, where something is found for it
  pub record Uses (key : K) (old new : Cached K F) : Type 0 where
    pub found : finds key ≡ true
    pub latest : IsLatest is_made key new
    pub recent : recent_of new ≡ recent_with same finds old key
    pub count : new.made ≡ made_over same finds old (Some key ∷ [])
    pub ahead : (more : List (Option K)) → made_over same finds old (Some key ∷ more) ≡ made_over same finds new more
    pub sound : IsSound finds is_made new
    pub held : StillKept same old new
    pub bounds : (length new.entries ≤ new.capacity) × (0 < new.capacity)

  -- of the counts and keys alone
  counted : (key : K) (entries after : List (K × F)) (capacity made : ℕ) (miss : ℕ) → finds key ≡ true → made ≤ most
      → (if has same key (keys_of entries) then 0 else 1) ≡ miss
      → keys_of after ≡ recent_after same capacity (keys_of entries) key
      → (more : List (Option K)) → made_over same finds (cached entries capacity made) (Some key ∷ more) ≡ made_over same finds (cached after capacity (min (made + miss) most)) more
  counted key entries after capacity made miss found little missed keys more = rw found (rw missed (rw keys (omega arith)))

  counted_now : (key : K) (entries : List (K × F)) (capacity made : ℕ) (miss : ℕ) → finds key ≡ true → made ≤ most
      → (if has same key (keys_of entries) then 0 else 1) ≡ miss
      → min (made + miss) most ≡ made_over same finds (cached entries capacity made) (Some key ∷ [])
  counted_now key entries capacity made miss found little missed = rw found (rw missed (omega arith))

  new_right : (key k : K) (kept f : F) → k ≡ key → f ≡ kept → finds key ≡ true → is_made key kept → (finds k ≡ true) × is_made k f
  new_right key k kept f e d found right = rw e (rw d (found, right))

  -- as many as there may be
  fits_of : (key : K) (entries after : List (K × F)) (capacity : ℕ) → keys_of after ≡ recent_after same capacity (keys_of entries) key → length after ≤ capacity
  fits_of key entries after capacity keys =
      let count : length after ≡ length (take capacity (key ∷ without same key (keys_of entries))) = sym (length-keys_of after) ∙ ap length keys in
      rw count (omega (arith, length-take capacity (key ∷ without same key (keys_of entries))))

  module _ (exact : (one other : K) → same one other ≡ true → one ≡ other) (key : K) (entries : List (K × F)) (capacity made : ℕ) (sound : IsSound finds is_made (cached entries capacity made)) (little : made ≤ most) where
    kept_right : (entry : K × F) → lookup_entry (same key) entries ≡ Some entry → (key ≡ entry.0) × (finds key ≡ true) × is_made key entry.1
    kept_right entry h =
        let at = Contains-lookup_entry (same key) entries entry h in
        let one = exact key entry.0 at.1 in
        let right = subst (λ k. (finds k ≡ true) × is_made k entry.1) (sym one) (sound entry.0 entry.1 at.0) in
        (one, right.0, right.1)

    -- the entry that is promoted, and the ones after it
    promotes : (entry : K × F) → lookup_entry (same key) entries ≡ Some entry → length entries ≤ capacity → 0 < capacity
        → Uses key (cached entries capacity made) (cached (promoted (same key) entries) capacity made)
    promotes entry h fits room =
        let stays : min (made + 0) most ≡ made = omega (arith, little) in
        let right = kept_right entry h in
        let there : has same key (keys_of entries) ≡ true = has-entry same key entries entry h in
        let shape : promoted (same key) entries ≡ entry ∷ remove_entry (same key) entries = rw h refl in
        let keys : keys_of (promoted (same key) entries) ≡ recent_after same capacity (keys_of entries) key =
        ap keys_of shape ∙ (ap (λ k. k ∷ keys_of (remove_entry (same key) entries)) (sym right.0) ∙ (ap (λ rest. key ∷ rest) (keys_of-remove_entry same key entries)
        ∙ sym (recent_after-hit same key capacity (keys_of entries) (rw (length-keys_of entries) fits) there))) in
        let none : (if has same key (keys_of entries) then 0 else 1) ≡ 0 = rw there refl in
        record {
          found = right.1;
          latest = record { kept = entry.1; first = ap (λ es. slice_get es 0) shape ∙ ap (λ k. Some (k, entry.1)) (sym right.0); right = right.2 };
          recent = rw right.1 keys;
          count = sym stays ∙ counted_now key entries capacity made 0 right.1 little none;
          ahead = λ more. subst (λ n. made_over same finds (cached entries capacity made) (Some key ∷ more) ≡ made_over same finds (cached (promoted (same key) entries) capacity n) more) stays (counted key entries (promoted (same key) entries) capacity made 0 right.1 little none keys more);
          sound = λ k kept c. sound k kept (Contains-promoted (same key) entries (k, kept) c);
          held = λ k kept was there. kept_promoted same exact key entries entry h k ∙ was;
          bounds = (fits_of key entries (promoted (same key) entries) capacity keys, room);
        }

    -- the new entry, and the ones that stay after it
    puts : (kept : F) → lookup_entry (same key) entries ≡ None → 0 < capacity → finds key ≡ true → is_made key kept
        → Uses key (cached entries capacity made) (cached (put_entries same (lru_cache entries capacity) key kept) capacity (min (made + 1) most))
    puts kept h room found right =
        let there : has same key (keys_of entries) ≡ false = has-none same key entries h in
        let shape : put_entries same (lru_cache entries capacity) key kept ≡ (key, kept) ∷ take (capacity - 1) entries = rw h refl in
        let keys : keys_of (put_entries same (lru_cache entries capacity) key kept) ≡ recent_after same capacity (keys_of entries) key =
        ap keys_of shape ∙ (ap (λ rest. key ∷ rest) (sym (take-map (λ e. e.0) (capacity - 1) entries)) ∙ sym (recent_after-miss same key capacity (keys_of entries) room there)) in
        let one : (if has same key (keys_of entries) then 0 else 1) ≡ 1 = rw there refl in
        record {
          found = found;
          latest = record { kept = kept; first = ap (λ es. slice_get es 0) shape; right = right };
          recent = rw found keys;
          count = counted_now key entries capacity made 1 found little one;
          ahead = counted key entries (put_entries same (lru_cache entries capacity) key kept) capacity made 1 found little one keys;
          sound = λ k f c. elim (Contains-put_entries same (lru_cache entries capacity) key kept (k, f) c) [
            | inl was ↦ sound k f was
            | inr is ↦ elim is.1 [
              | inl this ↦ new_right key k kept f this is.0 found right
              | inr was ↦ new_right key k kept f (sym (exact key k was.2)) is.0 found right
            ]
          ];
          held = λ k f was there. kept_put same exact key entries capacity kept h k f was there;
          bounds = (fits_of key entries (put_entries same (lru_cache entries capacity) key kept) capacity keys, room);
        }

-- a look-up that finds nothing leaves the cache as it is
pub not_promoted : {K F : Type 0} (same : K → K → Bool) (key : K) (before after : LruCache K F) (result : Bool) → after ≡ lru_cache (promoted (same key) before.entries) before.cap
    → result ≡ is_some (lookup (same key) before.entries) → result ≡ false → after ≡ before
not_promoted same key before after result moved looked none = let h = no_entry_of same key before.entries (sym looked ∙ none) in moved ∙ rw h refl

-- so where nothing is put after it, the cache is as before
pub nothing_put : {K F : Type 0} (same : K → K → Bool) (key : K) (before between after : LruCache K F) (made : ℕ) (old : Cached K F) (result : Bool) → cached before.entries before.cap made ≡ old
    → between ≡ lru_cache (promoted (same key) before.entries) before.cap → result ≡ is_some (lookup (same key) before.entries) → result ≡ false → after ≡ between
    → (after ≡ before) × (cached after.entries after.cap made ≡ old)
nothing_put same key before between after made old result view moved looked none stays =
    let is : after ≡ before = stays ∙ not_promoted same key before between result moved looked none in
    (is, ap (λ k. cached k.entries k.cap made) is ∙ view)

-- and then its key was not kept
pub not_kept : {K F : Type 0} (same : K → K → Bool) (key : K) (before : LruCache K F) (made : ℕ) (old : Cached K F) (result : Bool) → cached before.entries before.cap made ≡ old
    → result ≡ is_some (lookup (same key) before.entries) → result ≡ false → has same key (recent_of old) ≡ false
not_kept same key before made old result view looked none = subst (λ c. has same key (recent_of c) ≡ false) view (has-none same key before.entries (no_entry_of same key before.entries (sym looked ∙ none)))

module _ {K F : Type 0} (same : K → K → Bool) (exact : (one other : K) → same one other ≡ true → one ≡ other) (finds : K → Bool) (is_made : K → F → Type 0) (key : K) (before : LruCache K F) (made : ℕ) where
  -- a key that is found
  pub hit : (old : Cached K F) (after : LruCache K F) (result : Bool) → cached before.entries before.cap made ≡ old → IsSound finds is_made old → (length before.entries ≤ before.cap) × (0 < before.cap) → made ≤ most
      → after ≡ lru_cache (promoted (same key) before.entries) before.cap → result ≡ is_some (lookup (same key) before.entries) → result ≡ true
      → Uses same finds is_made key old (cached after.entries after.cap made)
  hit old after result view sound bounds little moved looked some =
      let at = entry_of same key before.entries (sym looked ∙ some) in
      let sound' = subst (IsSound finds is_made) (sym view) sound in
      let uses = promotes same finds is_made exact key before.entries before.cap made sound' little at.0 at.1 bounds.0 bounds.1 in
      subst (λ c. Uses same finds is_made key c (cached after.entries after.cap made)) view (rw moved uses)

  -- a key that is not, and for which a thing was made and put
  pub miss : (old : Cached K F) (between after : LruCache K F) (result : Bool) (kept : F) (count : ℕ) → cached before.entries before.cap made ≡ old → IsSound finds is_made old → (length before.entries ≤ before.cap) × (0 < before.cap) → made ≤ most
      → between ≡ lru_cache (promoted (same key) before.entries) before.cap → result ≡ is_some (lookup (same key) before.entries) → result ≡ false
      → (finds key ≡ true) × is_made key kept → after ≡ lru_cache (put_entries same between key kept) between.cap → count ≡ min (made + 1) most
      → Uses same finds is_made key old (cached after.entries after.cap count)
  miss old between after result kept count view sound bounds little moved looked none right put more =
      let h = no_entry_of same key before.entries (sym looked ∙ none) in
      let stays : between ≡ before = not_promoted same key before between result moved looked none in
      let sound' = subst (IsSound finds is_made) (sym view) sound in
      let uses = puts same finds is_made exact key before.entries before.cap made sound' little kept h bounds.1 right.0 right.1 in
      subst (λ c. Uses same finds is_made key c (cached after.entries after.cap count)) view (rw (put, more) (rw stays uses))

-- ---- the key that was used last is used again

module _ {K : Type 0} (same : K → K → Bool) (finds : K → Bool) (key : K) (itself : same key key ≡ true) where
  -- it goes to the front, where it is
  stays_first : (capacity : ℕ) (recent : List K) → length recent ≤ capacity → slice_get recent 0 ≡ Some key → (has same key recent ≡ true) × (recent_after same capacity recent key ≡ recent)
  stays_first capacity [] fits first = cc
  stays_first capacity (other ∷ recent) fits first =
      let is : other ≡ key = let found : Some other ≡ Some key = first in cc in
      let there : has same key (other ∷ recent) ≡ true = rw is (rw itself refl) in
      let rest : without same key (other ∷ recent) ≡ recent = rw is (rw itself refl) in
      (there, recent_after-hit same key capacity (other ∷ recent) fits there ∙ ap (λ keys. key ∷ keys) rest ∙ ap (λ k. k ∷ recent) (sym is))

  module _ {F : Type 0} (cache : Cached K F) (fits : length (recent_of cache) ≤ cache.capacity) (first : IsFirst key cache) where
    stays : (has same key (recent_of cache) ≡ true) × (recent_after same cache.capacity (recent_of cache) key ≡ recent_of cache)
    stays = stays_first cache.capacity (recent_of cache) fits first

    kept_so : (b : Bool) → (if b then recent_after same cache.capacity (recent_of cache) key else recent_of cache) ≡ recent_of cache
    kept_so true = stays.1
    kept_so false = refl

    counted_so : (b : Bool) (rest : List K) → misses same cache.capacity (recent_of cache) (if b then key ∷ rest else rest) ≡ misses same cache.capacity (recent_of cache) rest
    counted_so true rest = rw (stays.0, stays.1) (omega arith)
    counted_so false rest = refl

    pub used_again : ChangesNothing same finds key cache
    used_again = record {
      recent = kept_so (finds key);
      ahead = λ more. ap (λ n. min (cache.made + n) most) (counted_so (finds key) (used finds more));
    }
