-- Chains by pairs, with a step that shortens where no pair says otherwise: whatever the values are.
use Rattle.std.proofs.Common.{◌≡◌, ◌⊎◌, ℕ, zero, suc, ◌+◌, ◌-◌, ◌*◌, ◌≤◌, Bool, true, false, List, [], ◌∷◌, ◌++◌, length, Option, None, Some, if◌then◌else◌, refl, sym, true≢false, inl, inr, arith, Decides}
use Rattle.std.specs.List.{list_any}
use Rattle.std.specs.Map.{lookup}
use Rattle.std.specs.Option.{option_or, is_some}
use Rattle.std.proofs.lemmas.Bool.{cases_Bool}
use Rattle.icu_decimal_chains.specs.Chains.{Follows, walk, chain, ComesBack}
use Rattle.icu_decimal_chains.proofs.ChainLemmas.{counted, once_at_most, walk_follows}
use Rattle.icu_decimal_chains.proofs.NextLemmas.{still_end}

or_none : {A : Type 0} (o : Option A) → option_or o None ≡ o
or_none None = refl
or_none (Some x) = refl

pub none_from : {A : Type 0} (o : Option A) → is_some o ≡ false → o ≡ None
none_from None h = refl
none_from (Some x) h = absurd (true≢false h)

cases_Option : {A : Type 0} (o : Option A) → (o ≡ None) ⊎ ((y : A) × (o ≡ Some y))
cases_Option None = inl refl
cases_Option (Some y) = inr (y, refl)

at_end : {K V : Type 0} (same : K → K → Bool) (pairs : List (K × V)) (x k : K) (p : V)
    → lookup (same x) (pairs ++ (k, p) ∷ []) ≡ option_or (lookup (same x) pairs) (if same x k then Some p else None)
at_end same [] x k p = refl
at_end same (pair ∷ pairs) x k p = elim (cases_Bool (same x pair.0)) [
  | inl is ↦ rw is refl
  | inr is ↦ rw is (at_end same pairs x k p)
]

module _ {A : Type 0} (same : A → A → Bool) (exact : (a b : A) → Decides (same a b) (a ≡ b)) (short : A → Option A) where
  abbrev pub step : List (A × A) → A → Option A
  step pairs x = option_or (lookup (same x) pairs) (short x)

  abbrev pub Ends : List (A × A) → Type 0
  Ends pairs = (x : A) → (xs : List A) × Follows (step pairs) x xs

  -- ---- one more pair

  pub there : (pairs : List (A × A)) (k p : A) → lookup (same k) pairs ≡ None → step (pairs ++ (k, p) ∷ []) k ≡ Some p
  there pairs k p absent =
      let itself : same k k ≡ true = (exact k k).1 refl in
      rw (at_end same pairs k k p, absent, itself) refl

  pub elsewhere : (pairs : List (A × A)) (k p x : A) → same x k ≡ false → step (pairs ++ (k, p) ∷ []) x ≡ step pairs x
  elsewhere pairs k p x other = rw (at_end same pairs x k p, other, or_none (lookup (same x) pairs)) refl

  pub more_end : (pairs : List (A × A)) (k p : A) → lookup (same k) pairs ≡ None → Ends pairs → ¬ (ComesBack (step (pairs ++ (k, p) ∷ [])) k) → Ends (pairs ++ (k, p) ∷ [])
  more_end pairs k p absent ends away =
      still_end same exact (step pairs) (step (pairs ++ (k, p) ∷ [])) k p (there pairs k p absent) (elsewhere pairs k p) ends away

  -- ---- how long a chain is

  abbrev listed : List (A × A) → A → Bool
  listed pairs x = is_some (lookup (same x) pairs)

  counted_none : (xs : List A) → counted (listed []) xs ≡ 0
  counted_none [] = refl
  counted_none (x ∷ xs) = counted_none xs

  counted_more : (pair : A × A) (pairs : List (A × A)) (xs : List A) → counted (listed (pair ∷ pairs)) xs ≤ counted (λ y. same y pair.0) xs + counted (listed pairs) xs
  counted_more pair pairs [] = omega arith
  counted_more pair pairs (x ∷ xs) =
      let rest = counted_more pair pairs xs in
      elim (cases_Bool (same x pair.0)) [
        | inl is ↦ elim (cases_Bool (listed pairs x)) [
          | inl h ↦ rw (is, h) (omega (arith, rest))
          | inr h ↦ rw (is, h) (omega (arith, rest))
        ]
        | inr is ↦ elim (cases_Bool (listed pairs x)) [
          | inl h ↦ rw (is, h) (omega (arith, rest))
          | inr h ↦ rw (is, h) (omega (arith, rest))
        ]
      ]

  -- a chain that ends holds no more of the listed than there are
  counted_within : (next : A → Option A) (pairs : List (A × A)) (x : A) (xs : List A) → Follows next x xs → counted (listed pairs) (x ∷ xs) ≤ length pairs
  counted_within next [] x xs f = let none = counted_none (x ∷ xs) in omega (arith, none)
  counted_within next (pair ∷ pairs) x xs f =
      omega (arith, counted_within next pairs x xs f, counted_more pair pairs (x ∷ xs), once_at_most same exact next x xs pair.0 f)

  module _ (size : A → ℕ) (small : (x : A) → size x ≤ 4) (falls : (x y : A) → short x ≡ Some y → suc (size y) ≤ size x) where
    by_count : (pairs : List (A × A)) (x : A) (xs : List A) → Follows (step pairs) x xs → length xs ≤ size x + 5 * counted (listed pairs) (x ∷ xs)
    by_count pairs x [] f = omega arith
    by_count pairs x (y ∷ ys) f =
        let rest = by_count pairs y ys f.1 in
        elim (cases_Bool (listed pairs x)) [
          | inl is ↦ rw is (omega (arith, rest, small y))
          | inr is ↦
              let absent : lookup (same x) pairs ≡ None = none_from (lookup (same x) pairs) is in
              let cut : short x ≡ Some y = rw absent at f.0 in
              rw is (omega (arith, rest, falls x y cut))
        ]

    pub at_most : (pairs : List (A × A)) (x : A) (xs : List A) → Follows (step pairs) x xs → length xs ≤ 5 * length pairs + 4
    at_most pairs x xs f = omega (arith, by_count pairs x xs f, counted_within (step pairs) pairs x xs f, small x)

    -- without pairs each chain ends
    short_ends : (n : ℕ) (x : A) → size x ≤ n → (xs : List A) × Follows (step []) x xs
    short_ends zero x le = elim (cases_Option (short x)) [
      | inl is ↦ ([], is)
      | inr some ↦ absurd (omega (arith, falls x some.0 some.1, le))
    ]
    short_ends (suc n) x le = elim (cases_Option (short x)) [
      | inl is ↦ ([], is)
      | inr some ↦
          let rest = short_ends n some.0 (omega (arith, falls x some.0 some.1, le)) in
          (some.0 ∷ rest.0, (some.1, rest.1))
    ]

    pub none_ends : Ends []
    none_ends x = short_ends 4 x (small x)

    pub walk_is : (pairs : List (A × A)) → Ends pairs → (x : A) → Follows (step pairs) x (walk (step pairs) (5 * length pairs + 4) x)
    walk_is pairs ends x = walk_follows (step pairs) (5 * length pairs + 4) x (ends x).0 (ends x).1 (at_most pairs x (ends x).0 (ends x).1)

-- ---- whether a walk meets a value, step by step

module _ {A : Type 0} (next : A → Option A) (test : A → Bool) where
  pub meets_at_first : (n : ℕ) (x : A) → list_any test (chain next n x) ≡ list_any test (chain next (n - 0) x)
  meets_at_first n x = let all : n - 0 ≡ n = omega arith in rw all refl

  pub meets_further : (n m : ℕ) (x y : A) → n ≡ suc m → test x ≡ false → next x ≡ Some y → list_any test (chain next n x) ≡ list_any test (chain next m y)
  meets_further n m x y is e f = rw (is, e, f) refl

-- ---- the last of a list

list_apart : {E : Type 0} (x : E) (xs : List E) → [] ≡ x ∷ xs → ⊥
list_apart x xs h = cc

cons_same : {E : Type 0} (x y : E) (xs ys : List E) → x ≡ y → xs ≡ ys → x ∷ xs ≡ y ∷ ys
cons_same x y xs ys h k = cc

-- what is before one more is the whole, or part of the rest
pub last_split : {E : Type 0} (done : List E) (e : E) (before : List E) (x : E) (behind : List E) → done ++ e ∷ [] ≡ before ++ x ∷ behind
    → ((before ≡ done) × (x ≡ e)) ⊎ ((rest : List E) × (done ≡ before ++ x ∷ rest))
last_split [] e [] x behind h = inl (refl, cc)
last_split [] e (b ∷ []) x behind h = absurd (list_apart x behind cc)
last_split [] e (b ∷ c ∷ bs) x behind h = absurd (list_apart c (bs ++ x ∷ behind) cc)
last_split (d ∷ ds) e [] x behind h = inr (ds, cc)
last_split (d ∷ ds) e (b ∷ bs) x behind h =
    let head : d ≡ b = cc in
    let tail : ds ++ e ∷ [] ≡ bs ++ x ∷ behind = cc in
    elim (last_split ds e bs x behind tail) [
      | inl same ↦ inl (cons_same b d bs ds (sym head) same.0, same.1)
      | inr rest ↦ inr (rest.0, cons_same d b ds (bs ++ x ∷ rest.0) head rest.1)
    ]
