-- The keys of entries after a use, and how uses are counted one by one.
use Rattle.std.proofs.Common.{◌≡◌, ℕ, zero, suc, ◌+◌, ◌-◌, ◌<◌, ◌≤◌, Bool, true, false, List, [], ◌∷◌, length, take, refl, sym, ap, ◌∙◌, arith, Option, Some, None}
use Rattle.std.specs.Map.{keys_of, lookup, lookup_entry, remove_entry}
use Rattle.std.specs.Option.{is_some}
use Rattle.std.proofs.lemmas.List.{take_all}
use Rattle.locale_numbers_cache.specs.Recent.{has, without, recent_after}

module _ {K : Type 0} (same : K → K → Bool) (key : K) where
  pub without-absent : (keys : List K) → has same key keys ≡ false → without same key keys ≡ keys
  without-absent [] h = refl
  without-absent (other ∷ keys) h = (elim (same key other) as (λ b. same key other ≡ b → without same key (other ∷ keys) ≡ other ∷ keys) [
    | true ↦ λ t. let h' = rw t at h in cc
    | false ↦ λ t. let h' = rw t at h in rw t (ap (λ rest. other ∷ rest) (without-absent keys h'))
  ]) refl

  pub length-without : (keys : List K) → has same key keys ≡ true → length (without same key keys) + 1 ≡ length keys
  length-without [] h = cc
  length-without (other ∷ keys) h = (elim (same key other) as (λ b. same key other ≡ b → length (without same key (other ∷ keys)) + 1 ≡ length (other ∷ keys)) [
    | true ↦ λ t. rw t (omega arith)
    | false ↦ λ t. let h' = rw t at h in rw t (omega (arith, length-without keys h'))
  ]) refl

  pub keys_of-remove_entry : {F : Type 0} (entries : List (K × F)) → keys_of (remove_entry (same key) entries) ≡ without same key (keys_of entries)
  keys_of-remove_entry [] = refl
  keys_of-remove_entry (entry ∷ entries) = (elim (same key entry.0) as (λ b. same key entry.0 ≡ b → keys_of (remove_entry (same key) (entry ∷ entries)) ≡ without same key (keys_of (entry ∷ entries))) [
    | true ↦ λ t. rw t refl
    | false ↦ λ t. rw t (ap (λ rest. entry.0 ∷ rest) (keys_of-remove_entry entries))
  ]) refl

  has-found : {F : Type 0} (entries : List (K × F)) → is_some (lookup_entry (same key) entries) ≡ has same key (keys_of entries)
  has-found [] = refl
  has-found (entry ∷ entries) = (elim (same key entry.0) as (λ b. same key entry.0 ≡ b → is_some (lookup_entry (same key) (entry ∷ entries)) ≡ has same key (keys_of (entry ∷ entries))) [
    | true ↦ λ t. rw t refl
    | false ↦ λ t. rw t (has-found entries)
  ]) refl

  found-looked_up : {F : Type 0} (entries : List (K × F)) → is_some (lookup (same key) entries) ≡ is_some (lookup_entry (same key) entries)
  found-looked_up [] = refl
  found-looked_up (entry ∷ entries) = (elim (same key entry.0) as (λ b. same key entry.0 ≡ b → is_some (lookup (same key) (entry ∷ entries)) ≡ is_some (lookup_entry (same key) (entry ∷ entries))) [
    | true ↦ λ t. rw t refl
    | false ↦ λ t. rw t (found-looked_up entries)
  ]) refl

  pub has-entry : {F : Type 0} (entries : List (K × F)) (entry : K × F) → lookup_entry (same key) entries ≡ Some entry → has same key (keys_of entries) ≡ true
  has-entry entries entry h = sym (has-found entries) ∙ ap is_some h

  pub has-none : {F : Type 0} (entries : List (K × F)) → lookup_entry (same key) entries ≡ None → has same key (keys_of entries) ≡ false
  has-none entries h = sym (has-found entries) ∙ ap is_some h

  some_of : {T : Type 0} (found : Option T) → is_some found ≡ true → (it : T) × (found ≡ Some it)
  some_of None h = cc
  some_of (Some it) h = (it, refl)

  none_of : {T : Type 0} (found : Option T) → is_some found ≡ false → found ≡ None
  none_of None h = refl
  none_of (Some it) h = cc

  -- the entry of a key that a look-up finds
  pub entry_of : {F : Type 0} (entries : List (K × F)) → is_some (lookup (same key) entries) ≡ true → (entry : K × F) × (lookup_entry (same key) entries ≡ Some entry)
  entry_of entries h = some_of (lookup_entry (same key) entries) (sym (found-looked_up entries) ∙ h)

  -- and there is none where a look-up finds nothing
  pub no_entry_of : {F : Type 0} (entries : List (K × F)) → is_some (lookup (same key) entries) ≡ false → lookup_entry (same key) entries ≡ None
  no_entry_of entries h = none_of (lookup_entry (same key) entries) (sym (found-looked_up entries) ∙ h)

  -- at a key that is there, nothing is dropped
  pub recent_after-hit : (capacity : ℕ) (keys : List K) → length keys ≤ capacity → has same key keys ≡ true → recent_after same capacity keys key ≡ key ∷ without same key keys
  recent_after-hit capacity keys fits h = take_all capacity (key ∷ without same key keys) (omega (arith, length-without keys h, fits))

  -- at one that is not, the last of as many as there may be
  pub recent_after-miss : (capacity : ℕ) (keys : List K) → 0 < capacity → has same key keys ≡ false → recent_after same capacity keys key ≡ key ∷ take (capacity - 1) keys
  recent_after-miss zero keys room h = absurd (omega (arith, room))
  recent_after-miss (suc capacity) keys room h = let gone = without-absent keys h in let less : suc capacity - 1 ≡ capacity = omega arith in rw gone (rw less refl)
