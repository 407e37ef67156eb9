-- Chains under two steps that differ only at one value: `specs/Chains.antt`.
use Rattle.std.proofs.Common.{◌≡◌, ℕ, suc, Bool, true, false, List, [], ◌∷◌, Option, Some, refl, sym, ap, ◌∙◌, true≢false, inl, inr, Decides}
use Rattle.std.specs.List.{list_any}
use Rattle.std.proofs.lemmas.Bool.{cases_Bool, or_parts}
use Rattle.icu_decimal_chains.specs.Chains.{Follows, after, ComesBack}
use Rattle.icu_decimal_chains.proofs.ChainLemmas.{after_within}

module _ {A : Type 0} (same : A → A → Bool) (exact : (a b : A) → Decides (same a b) (a ≡ b)) (old new : A → Option A) (k p : A) (there : new k ≡ Some p) (elsewhere : (x : A) → same x k ≡ false → new x ≡ old x) where
  -- a chain without the value stays
  pub kept : (x : A) (xs : List A) → Follows old x xs → list_any (λ y. same y k) (x ∷ xs) ≡ false → Follows new x xs
  kept x [] f h = elsewhere x (or_parts (same x k) false h).0 ∙ f
  kept x (y ∷ ys) f h =
      let parts = or_parts (same x k) (list_any (λ z. same z k) (y ∷ ys)) h in
      (elsewhere x parts.0 ∙ f.0, kept y ys f.1 parts.1)

  -- one with it goes on as the chain of what is next there
  pub diverted : (ps : List A) → Follows new p ps → (x : A) (xs : List A) → Follows old x xs → (ds : List A) × Follows new x ds
  diverted ps g x [] f = elim (cases_Bool (same x k)) [
    | inl is ↦ (p ∷ ps, (ap new ((exact x k).0 is) ∙ there, g))
    | inr is ↦ ([], elsewhere x is ∙ f)
  ]
  diverted ps g x (y ∷ ys) f = elim (cases_Bool (same x k)) [
    | inl is ↦ (p ∷ ps, (ap new ((exact x k).0 is) ∙ there, g))
    | inr is ↦
        let rest = diverted ps g y ys f.1 in
        (y ∷ rest.0, (elsewhere x is ∙ f.0, rest.1))
  ]

  -- the value is reached in a chain that holds it
  pub reached : (x : A) (xs : List A) → Follows old x xs → list_any (λ y. same y k) (x ∷ xs) ≡ true → (n : ℕ) × (after new n x ≡ Some k)
  reached x [] f h = elim (cases_Bool (same x k)) [
    | inl is ↦ (0, ap Some ((exact x k).0 is))
    | inr is ↦ absurd (true≢false (sym h ∙ rw is refl))
  ]
  reached x (y ∷ ys) f h = elim (cases_Bool (same x k)) [
    | inl is ↦ (0, ap Some ((exact x k).0 is))
    | inr is ↦
        let rest = reached y ys f.1 (rw is at h) in
        let step : new x ≡ Some y = elsewhere x is ∙ f.0 in
        (suc rest.0, rw step rest.1)
  ]

  -- the test by the walk from what is next there is right, both ways
  pub comes_back : (ps : List A) → Follows old p ps → list_any (λ y. same y k) (p ∷ ps) ≡ true → ComesBack new k
  comes_back ps f h =
      let rest = reached p ps f h in
      (rest.0, rw there rest.1)

  pub stays_away : (ps : List A) → Follows old p ps → list_any (λ y. same y k) (p ∷ ps) ≡ false → ¬ (ComesBack new k)
  stays_away ps f h back =
      let e : after new back.0 p ≡ Some k = rw there at back.1 in
      true≢false (sym (after_within same exact new back.0 p ps k (kept p ps f h) e) ∙ h)

  -- where nothing comes back to the value, all chains still end
  pub still_end : ((x : A) → (xs : List A) × Follows old x xs) → ¬ (ComesBack new k) → (x : A) → (xs : List A) × Follows new x xs
  still_end ends away x =
      let ps = ends p in
      elim (cases_Bool (list_any (λ y. same y k) (p ∷ ps.0))) [
        | inl h ↦ absurd (away (comes_back ps.0 ps.1 h))
        | inr h ↦ diverted ps.0 (kept p ps.0 ps.1 h) x (ends x).0 (ends x).1
      ]
