-- The first faulty entry, and the error that tells it: `specs/Faults.antt` and `specs/Telling.antt`.
use Rattle.std.proofs.Common.{◌≡◌, ◌⊎◌, inl, inr, if◌then◌else◌, Bool, true, false, ◌||◌, ◌&&◌, not, List, [], ◌∷◌, ◌++◌, map, Option, Some, None, is_some, refl, sym, ap, subst}
use Rattle.std.specs.List.{list_any}
use Rattle.std.specs.Option.{option_or}
use Rattle.std.proofs.lemmas.Bool.{or_right}
use Rattle.serde_json.specs.Data.{Data}
use Rattle.locale_numbers_faults.specs.declared.BookError.{BookError}
use Rattle.locale_numbers_faults.specs.declared.BookError.TheVariants.{Json, Shape, Tag, System, Text, Digits, Condition, Types, Exponents, Duplicate, Cycle, Memory, Unit, Code}
use Rattle.locale_numbers_tables.specs.CompactEntries.{rows_in, zero_in}
use Rattle.locale_numbers_tables.specs.Entries.{has_count, field_at, is_text_at}
use Rattle.locale_numbers_tables.specs.Faults.{compact_fault, digits_fault, has_symbols_shape, rules_fault, symbols_fault}
use Rattle.locale_numbers_tables.specs.Keys.{table_at}
use Rattle.locale_numbers_tables.specs.Allocation.{compact_may_grow, digits_may_grow, locale_may_grow, rules_may_grow, symbols_may_grow}
use Rattle.locale_numbers_tables.specs.RulesEntries.{conditions_in}
use Rattle.locale_numbers_tables.specs.Telling.{IsTold}

-- ---- what is told

pub told_at : (a b : Option BookError) (e : BookError) → a ≡ b → IsTold a e → IsTold b e
told_at a b e same told = subst (λ found. IsTold found e) same told

-- a fault that is told is the first one
pub told_first : (a b : Option BookError) (e : BookError) → IsTold a e → IsTold (option_or a b) e
told_first a b Json h = h
told_first a b Shape h = rw h refl
told_first a b Tag h = rw h refl
told_first a b System h = rw h refl
told_first a b Text h = rw h refl
told_first a b Digits h = rw h refl
told_first a b Condition h = rw h refl
told_first a b Types h = rw h refl
told_first a b Exponents h = rw h refl
told_first a b Duplicate h = rw h refl
told_first a b Cycle h = rw h refl
told_first a b Memory h = tt
told_first a b Unit h = rw h refl
told_first a b Code h = rw h refl

-- a key that is twice, or out of memory
pub told_twice : (found : Option BookError) (e : BookError) → (e ≡ Duplicate) ⊎ (e ≡ Memory) → (e ≡ Duplicate → found ≡ Some Duplicate) → IsTold found e
told_twice found e (inl same) h = subst (IsTold found) (sym same) (h same)
told_twice found e (inr same) h = subst (IsTold found) (sym same) tt

-- ---- one more entry

abbrev pub keys_of : {K V : Type 0} → List (K × V) → List K
keys_of pairs = map (λ pair. pair.0) pairs

pub keys_more : {K V : Type 0} (pairs : List (K × V)) (k : K) (v : V) → keys_of (pairs ++ (k, v) ∷ []) ≡ keys_of pairs ++ k ∷ []
keys_more [] k v = refl
keys_more (pair ∷ pairs) k v = ap (λ rest. pair.0 ∷ rest) (keys_more pairs k v)

module _ {K V : Type 0} (same : K → K → Bool) where
  pub among_keys : (k : K) (pairs : List (K × V)) → list_any (same k) (keys_of pairs) ≡ is_some (table_at same k pairs)
  among_keys k [] = refl
  among_keys k (pair ∷ pairs) =
      elim (same k pair.0) as (λ b. (b || list_any (same k) (keys_of pairs)) ≡ is_some (if b then Some pair.1 else table_at same k pairs)) [
        | true ↦ refl
        | false ↦ among_keys k pairs
      ]

-- ---- where memory may be wanting

pub symbols_sound : (entry : Data) → symbols_fault entry ≡ None → symbols_may_grow entry ≡ true
symbols_sound entry sound =
    or_right (has_symbols_shape entry && locale_may_grow 0 entry) (not (is_some (symbols_fault entry))) (ap (λ o. not (is_some o)) sound)

pub digits_sound : (entry : Data) → digits_fault entry ≡ None → digits_may_grow entry ≡ true
digits_sound entry sound = ap (λ o. not (is_some o)) sound

-- an entry of plural rules with no fault has two fields, and a text first
pub rules_sound : (entry : Data) → rules_fault entry ≡ None → rules_may_grow entry ≡ true
rules_sound entry sound = by (has_count 2 entry) (is_text_at 0 entry) (is_some (field_at conditions_in 1 entry)) _ sound
  where
    by : (a b c : Bool) (o : Option BookError) → (if a && b && c then o else Some Shape) ≡ None → (a && b) ≡ true
    by true true c o e = refl
    by true false c o e = cc
    by false b c o e = cc

-- and one of patterns has four fields, and two texts first
pub compact_sound : (entry : Data) → compact_fault entry ≡ None → compact_may_grow entry ≡ true
compact_sound entry sound =
    by (has_count 4 entry) (is_text_at 0 entry) (is_text_at 1 entry) (is_some (field_at rows_in 2 entry)) (is_some (field_at zero_in 3 entry)) _ sound
  where
    by : (a b c d e : Bool) (o : Option BookError) → (if a && b && c && d && e then o else Some Shape) ≡ None → (a && b && c) ≡ true
    by true true true d e o is = refl
    by true true false d e o is = cc
    by true false c d e o is = cc
    by false b c d e o is = cc
