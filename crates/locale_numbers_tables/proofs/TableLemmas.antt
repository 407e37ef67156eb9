-- One more entry of an array: `specs/Keys.antt` and `specs/Allocation.antt`.
use Rattle.std.proofs.Common.{get_or, drop, drop-cons, add-one, ◌<◌, append_assoc, ◌≡◌, if◌then◌else◌, ℕ, ◌+◌, suc, Bool, true, false, not, List, [], ◌∷◌, ◌++◌, length, Option, Some, None, is_some, option_map, refl, sym, ap, ◌∙◌, arith}
use Rattle.std.proofs.Math.Bool.{and-false}
use Rattle.std.proofs.lemmas.Bool.{and_parts}
use Rattle.serde_json.specs.Data.{Data, Items}
use Rattle.serde_json.specs.View.{items_view, view}
use Rattle.serde_json.specs.declared.value.Value.{Value}
use Rattle.locale_numbers_tables.specs.Entries.{count_of_items, all_of}
use Rattle.locale_numbers_tables.specs.Keys.{table_at, has_no_key_twice, table_in}

pub count-items : (fields : List Value) → count_of_items (items_view fields) ≡ length fields
count-items [] = refl
count-items (field ∷ fields) = let rest = count-items fields in omega arith

pub none_from : {A : Type 0} (o : Option A) → is_some o ≡ false → o ≡ None
none_from None h = refl
none_from (Some x) h = cc

-- ---- no key twice

module _ {K V : Type 0} (same : K → K → Bool) (symmetric : (a b : K) → same a b ≡ same b a) where
  -- a key that is after others is found
  pub found_after : (pairs : List (K × V)) (key : K) (first : K) (value : V) (rest : List (K × V)) → same first key ≡ true
      → is_some (table_at same first (pairs ++ (key, value) ∷ rest)) ≡ true
  found_after [] key first value rest h = rw h refl
  found_after (pair ∷ pairs) key first value rest h =
      elim (same first pair.0) as (λ b. is_some (if b then Some pair.1 else table_at same first (pairs ++ (key, value) ∷ rest)) ≡ true) [
        | true ↦ refl
        | false ↦ found_after pairs key first value rest h
      ]

  -- a key that is there already is twice
  pub twice : (pairs : List (K × V)) (key : K) (value : V) (rest : List (K × V)) → is_some (table_at same key pairs) ≡ true
      → has_no_key_twice same (pairs ++ (key, value) ∷ rest) ≡ false
  twice [] key value rest h = cc
  twice (pair ∷ pairs) key value rest h = by (twice pairs key value rest) (same key pair.0) refl h
    where
      by : (is_some (table_at same key pairs) ≡ true → has_no_key_twice same (pairs ++ (key, value) ∷ rest) ≡ false)
          → (b : Bool) → same key pair.0 ≡ b → is_some (if b then Some pair.1 else table_at same key pairs) ≡ true
          → has_no_key_twice same ((pair ∷ pairs) ++ (key, value) ∷ rest) ≡ false
      by again true e g = rw (found_after pairs key pair.0 value rest (symmetric pair.0 key ∙ e)) refl
      by again false e g = rw (again g) (and-false _)

  -- a new key after the others is found by itself alone
  absent_after : (pairs : List (K × V)) (first key : K) (value : V) → same first key ≡ false
      → is_some (table_at same first (pairs ++ (key, value) ∷ [])) ≡ is_some (table_at same first pairs)
  absent_after [] first key value h = rw h refl
  absent_after (pair ∷ pairs) first key value h =
      elim (same first pair.0) as (λ b. is_some (if b then Some pair.1 else table_at same first (pairs ++ (key, value) ∷ [])) ≡ is_some (if b then Some pair.1 else table_at same first pairs)) [
        | true ↦ refl
        | false ↦ absent_after pairs first key value h
      ]

  pub once_more : (pairs : List (K × V)) (key : K) (value : V) → table_at same key pairs ≡ None → has_no_key_twice same pairs ≡ true
      → has_no_key_twice same (pairs ++ (key, value) ∷ []) ≡ true
  once_more [] key value h n = refl
  once_more (pair ∷ pairs) key value h n = by (once_more pairs key value) (same key pair.0) refl h n
    where
      by : (table_at same key pairs ≡ None → has_no_key_twice same pairs ≡ true → has_no_key_twice same (pairs ++ (key, value) ∷ []) ≡ true)
          → (b : Bool) → same key pair.0 ≡ b → (if b then Some pair.1 else table_at same key pairs) ≡ None → has_no_key_twice same (pair ∷ pairs) ≡ true
          → has_no_key_twice same ((pair ∷ pairs) ++ (key, value) ∷ []) ≡ true
      by again true e g m = cc
      by again false e g m =
          let parts = and_parts (not (is_some (table_at same pair.0 pairs))) (has_no_key_twice same pairs) m in
          rw (absent_after pairs pair.0 key value (symmetric pair.0 key ∙ e), parts.0) (again g parts.1)

  -- a key that is there already: the array makes no table
  pub no_table : (read : Data → Option (K × V)) (items : Items) (pairs : List (K × V)) (key : K) (value : V) (left : Option (List (K × V)))
      → all_of read items ≡ option_map (λ (rest : List (K × V)). (pairs ++ (key, value) ∷ []) ++ rest) left → is_some (table_at same key pairs) ≡ true
      → table_in same read items ≡ None
  no_table read items pairs key value None all h = rw all refl
  no_table read items pairs key value (Some rest) all h = rw (all, append_assoc, twice pairs key value rest h) refl

-- ---- one more entry read

pub next_item : (values : List Value) (i : ℕ) (value : Value) → i < length values → value ≡ get_or values i value → drop i values ≡ value ∷ drop (i + 1) values
next_item values i value below is =
    let at_suc : drop i values ≡ get_or values i value ∷ drop (suc i) values = drop-cons values i value below in
    rw add-one (at_suc ∙ ap (λ x. x ∷ drop (suc i) values) (sym is))

pub moved : {E : Type 0} (entry : E) (done : List E) (left : Option (List E))
    → option_map (λ (rest : List E). done ++ rest) (option_map {T = List E} {U = List E} (λ rest. entry ∷ rest) left) ≡ option_map (λ (rest : List E). (done ++ entry ∷ []) ++ rest) left
moved entry done None = refl
moved entry done (Some rest) = ap Some (sym (append_assoc done (entry ∷ []) rest))

module _ {E : Type 0} (read : Data → Option E) where
  pub one_more : (values : List Value) (i : ℕ) (value : Value) (entry : E) (done : List E) → i < length values → value ≡ get_or values i value → read (view value) ≡ Some entry
      → all_of read (items_view values) ≡ option_map (λ (rest : List E). done ++ rest) (all_of read (items_view (drop i values)))
      → all_of read (items_view values) ≡ option_map (λ (rest : List E). (done ++ entry ∷ []) ++ rest) (all_of read (items_view (drop (i + 1) values)))
  one_more values i value entry done below is reads all =
      let cons : drop i values ≡ value ∷ drop (i + 1) values = next_item values i value below is in
      all ∙ ap (λ xs. option_map (λ (rest : List E). done ++ rest) (all_of read (items_view xs))) cons ∙ rw reads (moved entry done (all_of read (items_view (drop (i + 1) values))))
