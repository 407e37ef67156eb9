-- What is kept for a key after another use: what was kept for it.
use Rattle.std.proofs.Common.{◌≡◌, ℕ, zero, suc, ◌-◌, Bool, true, false, List, [], ◌∷◌, slice_get, take, Option, Some, None, refl, sym, ap, ◌∙◌, subst}
use Rattle.std.specs.Prelude.{option_map}
use Rattle.std.specs.Map.{keys_of, lookup, lookup_entry, remove_entry}
use Rattle.lru.specs.LruCache.{lru_cache, promoted, put_entries}
use Rattle.lru.proofs.CallerLemmas.{Contains-lookup_entry}
use Rattle.lru.proofs.Pairs.{lookup-lookup_entry}
use Rattle.locale_numbers_cache.specs.Cached.{Cached, IsFirst, StillKept, kept_for, recent_of}
use Rattle.locale_numbers_cache.specs.Recent.{has}

module _ {K F : Type 0} (same : K → K → Bool) (exact : (one other : K) → same one other ≡ true → one ≡ other) where
  -- without the entry of another key
  other_removed : (key other : K) → same other key ≡ false → (entries : List (K × F)) → lookup (same other) (remove_entry (same key) entries) ≡ lookup (same other) entries
  other_removed key other apart [] = refl
  other_removed key other apart (first ∷ entries) = (elim (same key first.0) as (λ b. same key first.0 ≡ b → lookup (same other) (remove_entry (same key) (first ∷ entries)) ≡ lookup (same other) (first ∷ entries)) [
    | true ↦ λ t.
        let not : same other first.0 ≡ false = ap (same other) (sym (exact key first.0 t)) ∙ apart in
        rw t (rw not refl)
    | false ↦ λ t. rw t ((elim (same other first.0) as (λ b. same other first.0 ≡ b → lookup (same other) (first ∷ remove_entry (same key) entries) ≡ lookup (same other) (first ∷ entries)) [
      | true ↦ λ u. rw u refl
      | false ↦ λ u. rw u (other_removed key other apart entries)
    ]) refl)
  ]) refl

  -- with one entry before the others
  entry_first : (key other : K) (entries : List (K × F)) (entry : K × F) → lookup_entry (same key) entries ≡ Some entry
      → lookup (same other) (entry ∷ remove_entry (same key) entries) ≡ lookup (same other) entries
  entry_first key other entries entry h =
      let is : key ≡ entry.0 = exact key entry.0 (Contains-lookup_entry (same key) entries entry h).1 in
      (elim (same other entry.0) as (λ b. same other entry.0 ≡ b → lookup (same other) (entry ∷ remove_entry (same key) entries) ≡ lookup (same other) entries) [
        | true ↦ λ t. rw t (ap (option_map (λ e. e.1)) (sym h) ∙ lookup-lookup_entry (same key) entries ∙ ap (λ k. lookup (same k) entries) (is ∙ sym (exact other entry.0 t)))
        | false ↦ λ t. rw t (other_removed key other (ap (same other) is ∙ t) entries)
      ]) refl

  -- among those that are left where the last are dropped
  left_there : (other : K) (count : ℕ) (entries : List (K × F)) → has same other (keys_of (take count entries)) ≡ true → lookup (same other) (take count entries) ≡ lookup (same other) entries
  left_there other zero entries there = absurd (cc)
  left_there other (suc count) [] there = refl
  left_there other (suc count) (first ∷ entries) there = (elim (same other first.0) as (λ b. same other first.0 ≡ b → lookup (same other) (take (suc count) (first ∷ entries)) ≡ lookup (same other) (first ∷ entries)) [
    | true ↦ λ t. rw t refl
    | false ↦ λ t. let there' = rw t at there in rw t (left_there other count entries there')
  ]) refl

  -- ---- the two ways of keeping

  pub kept_promoted : (key : K) (entries : List (K × F)) (entry : K × F) → lookup_entry (same key) entries ≡ Some entry → (other : K) → lookup (same other) (promoted (same key) entries) ≡ lookup (same other) entries
  kept_promoted key entries entry h other = rw h (entry_first key other entries entry h)

  pub kept_put : (key : K) (entries : List (K × F)) (capacity : ℕ) (made : F) → lookup_entry (same key) entries ≡ None → (other : K) (kept : F) → lookup (same other) entries ≡ Some kept
      → has same other (keys_of (put_entries same (lru_cache entries capacity) key made)) ≡ true → lookup (same other) (put_entries same (lru_cache entries capacity) key made) ≡ Some kept
  kept_put key entries capacity made h other kept was there =
      let there' : has same other (keys_of ((key, made) ∷ take (capacity - 1) entries)) ≡ true = rw h at there in
      rw h ((elim (same other key) as (λ b. same other key ≡ b → lookup (same other) ((key, made) ∷ take (capacity - 1) entries) ≡ Some kept) [
        | true ↦ λ t.
            let none : ◌≡◌ {A = Option F} None (Some kept) = ap (option_map (λ e. e.1)) (sym h) ∙ lookup-lookup_entry (same key) entries ∙ ap (λ k. lookup (same k) entries) (sym (exact other key t)) ∙ was in
            absurd (cc)
        | false ↦ λ t. let there'' = rw t at there' in rw t (left_there other (capacity - 1) entries there'' ∙ was)
      ]) refl)

-- where nothing has changed, all that is kept is what was kept
pub all_kept : {K F : Type 0} (same : K → K → Bool) (old new : Cached K F) → new ≡ old → StillKept same old new
all_kept same old new is key kept was there = subst (λ c. lookup (same key) c.entries ≡ Some kept) (sym is) was

-- the first key is one that is kept
pub first_is_there : {K F : Type 0} (same : K → K → Bool) (key : K) → same key key ≡ true → (cache : Cached K F) (kept : F) → slice_get cache.entries 0 ≡ Some (key, kept) → has same key (recent_of cache) ≡ true
first_is_there {K = K} {F = F} same key itself cache kept first = at cache.entries first
  where
    at : (entries : List (K × F)) → slice_get entries 0 ≡ Some (key, kept) → has same key (keys_of entries) ≡ true
    at [] none = cc
    at (entry ∷ entries) is = let one : entry ≡ (key, kept) = let found : Some entry ≡ Some (key, kept) = is in cc in rw one (rw itself refl)

-- and what is first is kept for it
pub first_is_kept : {K F : Type 0} (same : K → K → Bool) (key : K) → same key key ≡ true → (cache : Cached K F) → IsFirst key cache → kept_for same key cache ≡ option_map (λ entry. entry.1) (slice_get cache.entries 0)
first_is_kept {K = K} {F = F} same key itself cache first = at cache.entries first
  where
    at : (entries : List (K × F)) → slice_get (keys_of entries) 0 ≡ Some key → lookup (same key) entries ≡ option_map (λ entry. entry.1) (slice_get entries 0)
    at [] none = cc
    at (entry ∷ entries) is = let one : entry.0 ≡ key = let found : Some entry.0 ≡ Some key = is in cc in let passes : same key entry.0 ≡ true = ap (same key) one ∙ itself in rw passes refl
