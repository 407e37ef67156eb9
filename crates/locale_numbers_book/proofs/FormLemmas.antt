-- A value that is five arrays or six: `specs/Form.antt` and `specs/Arrays.antt`.
use Rattle.std.proofs.Common.{◌≡◌, ◌≤◌, ℕ, ◌==◌, ◌&&◌, ◌||◌, suc, Bool, true, false, List, [], ◌∷◌, drop, Option, Some, is_some, unwrap_or, refl, sym, ap, ◌∙◌, inl, inr, arith}
use Rattle.std.proofs.lemmas.Bool.{and_parts, cases_Bool, eqb-true}
use Rattle.serde_json.specs.Data.{Data, null, boolean, number, string, array, object, Items, no_items, item}
use Rattle.serde_json.specs.Find.{as_array}
use Rattle.serde_json.specs.View.{items_view}
use Rattle.serde_json.specs.declared.value.Value.{Value}
use Rattle.locale_numbers_book.specs.Arrays.{last_array, of_arrays}
use Rattle.locale_numbers_tables.specs.Entries.{count_of_items, field_at}
use Rattle.locale_numbers_book.specs.Form.{has_form, items_at}

array_is : (d : Data) → is_some (as_array d) ≡ true → d ≡ array (unwrap_or (as_array d) no_items)
array_is null h = cc
array_is (boolean b) h = cc
array_is (number n) h = cc
array_is (string s) h = cc
array_is (array is) h = refl
array_is (object ms) h = cc

last_is : (d : Data) → is_some (as_array d) ≡ true → item d no_items ≡ last_array (as_array d)
last_is null h = cc
last_is (boolean b) h = cc
last_is (number n) h = cc
last_is (string s) h = cc
last_is (array is) h = refl
last_is (object ms) h = cc

parts : (a b c d e : Bool) → (a && b && c && d && e) ≡ true → (a ≡ true) × (b ≡ true) × (c ≡ true) × (d ≡ true) × (e ≡ true)
parts true true true true true h = (refl, refl, refl, refl, refl)
parts true true true true false h = cc
parts true true true false e h = cc
parts true true false d e h = cc
parts true false c d e h = cc
parts false b c d e h = cc

-- the first of six apart
first_apart : (f a b c d e : Bool) → (f && a && b && c && d && e) ≡ true → (f ≡ true) × ((a && b && c && d && e) ≡ true)
first_apart true a b c d e h = (refl, h)
first_apart false a b c d e h = cc

-- no value has five items or six where it has more
too_many : (n : ℕ) (last : Bool) → 7 ≤ n → (n == 5 || (n == 6 && last)) ≡ true → ⊥
too_many n last many h = elim (cases_Bool (n == 5)) [
  | inl five ↦ let is = eqb-true n 5 five in absurd (omega (arith, is, many))
  | inr other ↦
      let six : (n == 6 && last) ≡ true = rw other at h in
      let is = eqb-true n 6 (and_parts (n == 6) last six).0 in
      absurd (omega (arith, is, many))
]

module _ (a b c d e : Data) (all : (is_some (as_array a) && is_some (as_array b) && is_some (as_array c) && is_some (as_array d) && is_some (as_array e)) ≡ true) where
  front_are : (rest last : Items) → rest ≡ last
      → array (item a (item b (item c (item d (item e rest)))))
      ≡ array (item (array (unwrap_or (as_array a) no_items)) (item (array (unwrap_or (as_array b) no_items)) (item (array (unwrap_or (as_array c) no_items))
      (item (array (unwrap_or (as_array d) no_items)) (item (array (unwrap_or (as_array e) no_items)) last)))))
  front_are rest last same =
      let each = parts (is_some (as_array a)) (is_some (as_array b)) (is_some (as_array c)) (is_some (as_array d)) (is_some (as_array e)) all in
      let one = array_is a each.0 in
      let two = array_is b each.1 in
      let three = array_is c each.2 in
      let four = array_is d each.3 in
      let five = array_is e each.4 in
      λ i. array (item (one i) (item (two i) (item (three i) (item (four i) (item (five i) (same i))))))

arrays_are : (vs : Items) → has_form (array vs) ≡ true
    → array vs ≡ of_arrays (items_at 0 (array vs)) (items_at 1 (array vs)) (items_at 2 (array vs)) (items_at 3 (array vs)) (items_at 4 (array vs)) (field_at as_array 5 (array vs))
arrays_are no_items h = cc
arrays_are (item a no_items) h = cc
arrays_are (item a (item b no_items)) h = cc
arrays_are (item a (item b (item c no_items))) h = cc
arrays_are (item a (item b (item c (item d no_items)))) h = cc
arrays_are (item a (item b (item c (item d (item e no_items))))) h = front_are a b c d e h no_items no_items refl
arrays_are (item a (item b (item c (item d (item e (item f no_items)))))) h =
    let both = first_apart (is_some (as_array f)) (is_some (as_array a)) (is_some (as_array b)) (is_some (as_array c)) (is_some (as_array d)) (is_some (as_array e)) h in
    front_are a b c d e both.1 (item f no_items) (last_array (as_array f)) (last_is f both.0)
arrays_are (item a (item b (item c (item d (item e (item f (item g vs))))))) h =
    let n : ℕ = count_of_items (item a (item b (item c (item d (item e (item f (item g vs))))))) in
    let count = first_apart (n == 5 || (n == 6 && is_some (as_array f))) (is_some (as_array a)) (is_some (as_array b)) (is_some (as_array c)) (is_some (as_array d)) (is_some (as_array e)) h in
    absurd (too_many n (is_some (as_array f)) (omega arith) count.0)

next_at : (place : ℕ) (values : List Value) → field_at as_array place (array (items_view (drop 1 values))) ≡ field_at as_array (suc place) (array (items_view values))
next_at place [] = refl
next_at place (value ∷ values) = refl

pub arrays_taken : (given values s t u v w : List Value) (a b c d e : Items) (f : Option Items) → values ≡ given → s ≡ drop 1 values → t ≡ drop 1 s → u ≡ drop 1 t → v ≡ drop 1 u → w ≡ drop 1 v
    → a ≡ items_at 0 (array (items_view values)) → b ≡ items_at 0 (array (items_view s)) → c ≡ items_at 0 (array (items_view t))
    → d ≡ items_at 0 (array (items_view u)) → e ≡ items_at 0 (array (items_view v)) → f ≡ field_at as_array 0 (array (items_view w)) → has_form (array (items_view given)) ≡ true
    → array (items_view given) ≡ of_arrays a b c d e f
arrays_taken given values s t u v w a b c d e f start es et eu ev ew ea eb ec ed ee ef form =
    let formed : has_form (array (items_view values)) ≡ true = ap (λ vs. has_form (array (items_view vs))) start ∙ form in
    let first : (place : ℕ) → field_at as_array place (array (items_view s)) ≡ field_at as_array (suc place) (array (items_view values)) = λ place. rw es (next_at place values) in
    let second : (place : ℕ) → field_at as_array place (array (items_view t)) ≡ field_at as_array (suc place) (array (items_view s)) = λ place. rw et (next_at place s) in
    let third : (place : ℕ) → field_at as_array place (array (items_view u)) ≡ field_at as_array (suc place) (array (items_view t)) = λ place. rw eu (next_at place t) in
    let fourth : (place : ℕ) → field_at as_array place (array (items_view v)) ≡ field_at as_array (suc place) (array (items_view u)) = λ place. rw ev (next_at place u) in
    let fifth : (place : ℕ) → field_at as_array place (array (items_view w)) ≡ field_at as_array (suc place) (array (items_view v)) = λ place. rw ew (next_at place v) in
    let items : Option Items → Items = λ found. unwrap_or found no_items in
    ap (λ vs. array (items_view vs)) (sym start)
    ∙ rw (ea, eb ∙ ap items (first 0), ec ∙ ap items (second 0 ∙ first 1), ed ∙ ap items (third 0 ∙ second 1 ∙ first 2), ee ∙ ap items (fourth 0 ∙ third 1 ∙ second 2 ∙ first 3), ef ∙ fifth 0 ∙ fourth 1 ∙ third 2 ∙ second 3 ∙ first 4) (arrays_are (items_view values) formed)

pub formed : (d : Data) (is : Items) → has_form d ≡ true → Some is ≡ as_array d → has_form (array is) ≡ true
formed null is form items = absurd (cc)
formed (boolean b) is form items = absurd (cc)
formed (number n) is form items = absurd (cc)
formed (string s) is form items = absurd (cc)
formed (array js) is form items = let same : is ≡ js = cc in ap (λ x. has_form (array x)) same ∙ form
formed (object ms) is form items = absurd (cc)
