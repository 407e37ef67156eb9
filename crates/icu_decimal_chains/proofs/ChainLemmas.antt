-- Chains under one step: `specs/Chains.antt`.
use Rattle.std.proofs.Common.{◌≡◌, ℕ, zero, suc, ◌≤◌, Bool, true, false, List, [], ◌∷◌, length, Option, None, Some, if◌then◌else◌, refl, sym, ap, subst, true≢false, inl, inr, arith, Decides}
use Rattle.std.specs.List.{list_any}
use Rattle.std.proofs.lemmas.Bool.{cases_Bool, or_parts, or_right}
use Rattle.icu_decimal_chains.specs.Chains.{Follows, walk, after}

module _ {A : Type 0} (next : A → Option A) where
  pub only_chain : (start : A) (xs ys : List A) → Follows next start xs → Follows next start ys → xs ≡ ys
  only_chain start [] [] f g = refl
  only_chain start [] (y ∷ ys) f g = cc
  only_chain start (x ∷ xs) [] f g = cc
  only_chain start (x ∷ xs) (y ∷ ys) f g =
      let same : y ≡ x = cc in
      let rest : xs ≡ ys = only_chain x xs ys f.1 (subst (λ (z : A). Follows next z ys) same g.1) in
      cc

  pub walked : (n : ℕ) (start : A) (xs : List A) → Follows next start xs → length xs ≤ n → walk next n start ≡ xs
  walked zero start [] f le = refl
  walked zero start (x ∷ xs) f le = absurd (omega arith)
  walked (suc n) start [] f le = rw f refl
  walked (suc n) start (x ∷ xs) f le = rw f.0 (ap (λ (ys : List A). x ∷ ys) (walked n x xs f.1 (omega arith)))

  -- the walk of at least as many steps as the chain has is a chain
  pub walk_follows : (n : ℕ) (start : A) (xs : List A) → Follows next start xs → length xs ≤ n → Follows next start (walk next n start)
  walk_follows n start xs f le = subst (λ (ys : List A). Follows next start ys) (sym (walked n start xs f le)) f

-- ---- where a chain holds a value

-- how many pass the test
abbrev pub counted : {A : Type 0} → (A → Bool) → List A → ℕ
counted test [] = 0
counted test (x ∷ xs) = if test x then suc (counted test xs) else counted test xs

pub none_counted : {A : Type 0} (test : A → Bool) (xs : List A) → list_any test xs ≡ false → counted test xs ≡ 0
none_counted test [] h = refl
none_counted test (x ∷ xs) h =
    let parts = or_parts (test x) (list_any test xs) h in
    rw parts.0 (none_counted test xs parts.1)

module _ {A : Type 0} (same : A → A → Bool) (exact : (a b : A) → Decides (same a b) (a ≡ b)) (next : A → Option A) where
  -- what steps lead to is in the chain
  pub after_within : (n : ℕ) (start : A) (xs : List A) (k : A) → Follows next start xs → after next n start ≡ Some k → list_any (λ y. same y k) (start ∷ xs) ≡ true
  after_within zero start xs k f e =
      let is : start ≡ k = cc in
      rw ((exact start k).1 is) refl
  after_within (suc n) start [] k f e = let no : None ≡ Some k = rw f at e in cc
  after_within (suc n) start (x ∷ xs) k f e =
      or_right (same start k) (list_any (λ y. same y k) (x ∷ xs)) (after_within n x xs k f.1 (rw f.0 at e))

  -- after a value that a chain holds is the chain of the value, which is shorter
  pub rest_of : (start : A) (xs : List A) (k : A) → Follows next start xs → list_any (λ y. same y k) xs ≡ true
      → (ys : List A) × (Follows next k ys × (suc (length ys) ≤ length xs))
  rest_of start [] k f h = absurd (true≢false (sym h))
  rest_of start (x ∷ xs) k f h = elim (cases_Bool (same x k)) [
    | inl is ↦ (xs, (subst (λ (z : A). Follows next z xs) ((exact x k).0 is) f.1, omega arith))
    | inr is ↦
        let there : list_any (λ y. same y k) xs ≡ true = rw is at h in
        let rest = rest_of x xs k f.1 there in
        (rest.0, (rest.1.0, omega (arith, rest.1.1)))
  ]

  -- a chain that ends does not come back
  pub never_again : (start : A) (xs : List A) → Follows next start xs → list_any (λ y. same y start) xs ≡ false
  never_again start xs f = elim (cases_Bool (list_any (λ y. same y start) xs)) [
    | inl h ↦
        let rest = rest_of start xs start f h in
        let alike : length rest.0 ≡ length xs = ap length (only_chain next start rest.0 xs rest.1.0 f) in
        absurd (omega (arith, rest.1.1, alike))
    | inr h ↦ h
  ]

  -- so it holds each value once at most
  pub once_at_most : (start : A) (xs : List A) (k : A) → Follows next start xs → counted (λ y. same y k) (start ∷ xs) ≤ 1
  once_at_most start [] k f = elim (cases_Bool (same start k)) [
    | inl is ↦ rw is (omega arith)
    | inr is ↦ rw is (omega arith)
  ]
  once_at_most start (x ∷ xs) k f = elim (cases_Bool (same start k)) [
    | inl is ↦
        let k_is : start ≡ k = (exact start k).0 is in
        let none : counted (λ y. same y k) (x ∷ xs) ≡ 0 = none_counted (λ y. same y k) (x ∷ xs) (subst (λ (z : A). list_any (λ y. same y z) (x ∷ xs) ≡ false) k_is (never_again start (x ∷ xs) f)) in
        rw (is, none) (omega arith)
    | inr is ↦ rw is (once_at_most x xs k f.1)
  ]
