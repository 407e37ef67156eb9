-- The types of a JSON value, and a map of types that rise.
use Rattle.std.proofs.Common.{◌≡◌, ◌≢◌, ◌+◌, ◌<◌, ◌≤◌, ℕ, suc, length, get_or, drop, drop-cons, true, false, List, [], ◌∷◌, ◌++◌, map, nat_le, Option, Some, None, is_some, option_map, option_and_then, refl, sym, ap, ◌∙◌, add-one, append_assoc, arith}
use Rattle.std.specs.BTreeMap.{insert_entry}
use Rattle.std.specs.Option.{option_map_or}
use Rattle.std.specs.Ordering.{nat_cmp}
use Rattle.std.specs.declared.cmp.Ordering.TheVariants.{Greater}
use Rattle.std.proofs.lemmas.Bool.{and_parts, leb-true}
use Rattle.std.proofs.lemmas.List.{map-append}
use Rattle.std.proofs.lemmas.Bool.Decides.{nat_tests}
use Rattle.serde_json.specs.Data.{Data}
use Rattle.serde_json.specs.Find.{as_array}
use Rattle.serde_json.specs.View.{items_view, view}
use Rattle.serde_json.specs.declared.value.Value.{Value}
use Rattle.icu_decimal_patterns.specs.KeptEntries.{Patterns, TypePatterns, of_type}
use Rattle.icu_decimal_patterns.specs.TableJson.{all_types, rise_from, rising, type_in, types_of}
use Rattle.icu_decimal_patterns.specs.TableSteps.{known_types}
use Rattle.icu_decimal_patterns.proofs.KeptLemmas.{not_empty}
use Rattle.icu_decimal_patterns.proofs.SlotsLemmas.{listed_items}

-- ---- the types of a value

pub is_some_mapped : {A B : Type 0} (f : A → B) (o : Option A) → is_some (option_map f o) ≡ is_some o
is_some_mapped f None = refl
is_some_mapped f (Some a) = refl

all_known : (ds : List Data) → is_some (all_types ds) ≡ true → all_types ds ≡ Some (known_types ds)
all_known [] all = refl
all_known (d ∷ ds) all = by (type_in d) all (all_known ds)
  where
    by : (o : Option TypePatterns) → is_some (option_and_then (λ x. option_map (λ (xs : List TypePatterns). x ∷ xs) (all_types ds)) o) ≡ true
        → (is_some (all_types ds) ≡ true → all_types ds ≡ Some (known_types ds))
        → option_and_then (λ x. option_map (λ (xs : List TypePatterns). x ∷ xs) (all_types ds)) o ≡ Some (option_map_or (λ x. x ∷ known_types ds) o (known_types ds))
    by None some rest = absurd (cc)
    by (Some x) some rest = ap (option_map (λ (xs : List TypePatterns). x ∷ xs)) (rest (sym (is_some_mapped (λ (xs : List TypePatterns). x ∷ xs) (all_types ds)) ∙ some))

none_of : {A : Type 0} (o : Option A) → is_some o ≡ false → o ≡ None
none_of None h = refl
none_of (Some a) h = cc

-- the rows of an array, as a slice
module _ (d : Data) (vs rows : List Value) (array : as_array d ≡ Some (items_view vs)) (slice : rows ≡ vs) where
  types_at : types_of d ≡ option_and_then rising (all_types (map view rows))
  types_at = rw (array, listed_items vs, slice) refl

  pub types_found : is_some (all_types (map view rows)) ≡ true → rise_from 0 (known_types (map view rows)) ≡ true → types_of d ≡ Some (known_types (map view rows))
  types_found all rise = types_at ∙ rw (all_known (map view rows) all, rise) refl

  pub no_types : is_some (all_types (map view rows)) ≡ false → types_of d ≡ None
  no_types all = types_at ∙ ap (option_and_then rising) (none_of (all_types (map view rows)) all)

  pub falling_types : is_some (all_types (map view rows)) ≡ true → rise_from 0 (known_types (map view rows)) ≡ false → types_of d ≡ None
  falling_types all rise = types_at ∙ rw (all_known (map view rows) all, rise) refl

-- a row that is a type is the first of those from its place on
pub known_step : (rows : List Value) (i : ℕ) (row : Value) (x : TypePatterns) → i < length rows → row ≡ get_or rows i row → type_in (view row) ≡ Some x
    → known_types (map view (drop i rows)) ≡ x ∷ known_types (map view (drop (i + 1) rows))
known_step rows i row x within is type =
    let found : type_in (view (get_or rows i row)) ≡ Some x = ap (λ r. type_in (view r)) (sym is) ∙ type in
    ap (λ rs. known_types (map view rs)) (drop-cons rows i row within ∙ ap (λ j. get_or rows i row ∷ drop j rows) (sym (add-one i)))
    ∙ ap (λ o. option_map_or (λ y. y ∷ known_types (map view (drop (i + 1) rows))) o (known_types (map view (drop (i + 1) rows)))) found

pub some_known : (front here whole rest : List TypePatterns) (x : TypePatterns) → front ++ here ≡ whole → here ≡ x ∷ rest → whole ≢ []
some_known front here whole rest x split first none = not_empty front x rest (ap (λ h. front ++ h) (sym first) ∙ split ∙ none)

-- ---- a map of types that rise

-- those after are greater
least_after : (least : ℕ) (before : List (ℕ × (ℕ × Patterns))) (x : TypePatterns) (rest : List TypePatterns) → rise_from least (map of_type before ++ x ∷ rest) ≡ true → least ≤ x.log10_type
least_after least [] x rest rise = leb-true least x.log10_type (and_parts (nat_le least x.log10_type) (rise_from (suc x.log10_type) rest) rise).0
least_after least (e ∷ before) x rest rise =
    let parts = and_parts (nat_le least e.0) (rise_from (suc e.0) (map of_type before ++ x ∷ rest)) rise in
    let here = leb-true least e.0 parts.0 in
    let behind = least_after (suc e.0) before x rest parts.1 in
    omega (arith, here, behind)

-- a type after the others is put at the end
pub put_last : (least : ℕ) (before : List (ℕ × (ℕ × Patterns))) (e : ℕ × (ℕ × Patterns)) (rest : List TypePatterns) → rise_from least (map of_type before ++ of_type e ∷ rest) ≡ true
    → insert_entry nat_cmp before e.0 e.1 ≡ before ++ e ∷ []
put_last least [] e rest rise = refl
put_last least (first ∷ before) e rest rise =
    let parts = and_parts (nat_le least first.0) (rise_from (suc first.0) (map of_type before ++ of_type e ∷ rest)) rise in
    let behind : suc first.0 ≤ e.0 = least_after (suc first.0) before (of_type e) rest parts.1 in
    let above : nat_cmp e.0 first.0 ≡ Greater = grind (arith, nat_tests, behind) in
    rw above (ap (λ more. first ∷ more) (put_last (suc first.0) before e rest parts.1))

pub put_step : (es after : List (ℕ × (ℕ × Patterns))) (e : ℕ × (ℕ × Patterns)) (here rest whole : List TypePatterns) → map of_type es ++ here ≡ whole → here ≡ of_type e ∷ rest
    → rise_from 0 whole ≡ true → after ≡ insert_entry nat_cmp es e.0 e.1 → map of_type after ++ rest ≡ whole
put_step es after e here rest whole split first rise put =
    let joined : map of_type es ++ of_type e ∷ rest ≡ whole = ap (λ h. map of_type es ++ h) (sym first) ∙ split in
    let last : after ≡ es ++ e ∷ [] = put ∙ put_last 0 es e rest (ap (rise_from 0) joined ∙ rise) in
    ap (λ es. map of_type es ++ rest) last ∙ ap (λ xs. xs ++ rest) (map-append of_type es (e ∷ [])) ∙ append_assoc (map of_type es) (of_type e ∷ []) rest ∙ joined
