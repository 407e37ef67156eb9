-- The keys kept, step by step and at once.
use Rattle.std.proofs.Common.{◌≡◌, ℕ, zero, suc, ◌+◌, Bool, true, false, if◌then◌else◌, List, [], ◌∷◌, ◌++◌, take, reverse, refl, sym, ap, ◌∙◌, arith, append_assoc, append-nil}
use Rattle.std.proofs.lemmas.List.{reverse-append}
use Rattle.locale_numbers_cache.specs.Recent.{has, without, recent_after, misses}
use Rattle.locale_numbers_cache.specs.Laws.{kept_after, distinct, LastUsedAreKept, UnusedKeysMiss}

module _ {K : Type 0} (same : K → K → Bool) where
  -- one more than is asked for changes nothing
  take-take : (n : ℕ) (keys : List K) → take n (take n keys) ≡ take n keys
  take-take zero keys = refl
  take-take (suc n) [] = refl
  take-take (suc n) (key ∷ keys) = ap (λ rest. key ∷ rest) (take-take n keys)

  take-without : (n : ℕ) (key : K) (keys : List K) → take n (without same key (take (suc n) keys)) ≡ take n (without same key keys)
  take-without zero key keys = refl
  take-without (suc n) key [] = refl
  take-without (suc n) key (other ∷ keys) = (elim (same key other) as (λ b. same key other ≡ b → take (suc n) (without same key (take (suc (suc n)) (other ∷ keys))) ≡ take (suc n) (without same key (other ∷ keys))) [
    | true ↦ λ t. rw t (take-take (suc n) keys)
    | false ↦ λ t. rw t (ap (λ rest. other ∷ rest) (take-without n key keys))
  ]) refl

  recent_after-take : (capacity : ℕ) (key : K) (keys : List K) → recent_after same capacity (take capacity keys) key ≡ take capacity (key ∷ without same key keys)
  recent_after-take zero key keys = refl
  recent_after-take (suc n) key keys = ap (λ rest. key ∷ rest) (take-without n key keys)

  kept_after-cut : (capacity : ℕ) (before keys : List K) → kept_after same capacity (take capacity (distinct same before)) keys ≡ take capacity (distinct same (reverse keys ++ before))
  kept_after-cut capacity before [] = refl
  kept_after-cut capacity before (key ∷ keys) =
      ap (λ recent. kept_after same capacity recent keys) (recent_after-take capacity key (distinct same before))
      ∙ (kept_after-cut capacity (key ∷ before) keys
      ∙ ap (λ all. take capacity (distinct same all)) (sym (append_assoc (reverse keys) (key ∷ []) before) ∙ ap (λ all. all ++ before) (sym (reverse-append (key ∷ []) keys))))

  none_taken : (capacity : ℕ) → take capacity (distinct same []) ≡ []
  none_taken zero = refl
  none_taken (suc n) = refl

  pub last_kept : LastUsedAreKept same
  last_kept capacity keys =
      ap (λ recent. kept_after same capacity recent keys) (sym (none_taken capacity))
      ∙ (kept_after-cut capacity [] keys ∙ ap (λ all. take capacity (distinct same all)) (append-nil (reverse keys)))

  misses-append : (capacity : ℕ) (recent keys more : List K) → misses same capacity recent (keys ++ more) ≡ misses same capacity recent keys + misses same capacity (kept_after same capacity recent keys) more
  misses-append capacity recent [] more = omega arith
  misses-append capacity recent (key ∷ keys) more = omega (arith, misses-append capacity (recent_after same capacity recent key) keys more)

  pub unused_miss : UnusedKeysMiss same
  unused_miss capacity keys key =
      misses-append capacity [] keys (key ∷ [])
      ∙ (ap (λ recent. misses same capacity [] keys + ((if has same key recent then 0 else 1) + 0)) (last_kept capacity keys)
      ∙ omega arith)
