-- One more slot: `specs/Categories.antt`.
use Rattle.std.proofs.Common.{◌≡◌, if◌then◌else◌, ℕ, ◌+◌, ◌<◌, ◌≤◌, Bool, true, false, List, [], ◌∷◌, ◌++◌, length, drop, get_or, Option, None, Some, is_some, option_map, refl, sym, ap, ◌∙◌}
use Rattle.std.proofs.lemmas.List.{append-nil, drop_all}
use Rattle.std.specs.Prelude.{option_and_then}
use Rattle.serde_json.specs.View.{items_view, view}
use Rattle.serde_json.specs.declared.value.Value.{Value}
use Rattle.serde_json.specs.Data.{Data, Items}
use Rattle.icu_decimal.specs.declared.plurals.PluralCategory.{PluralCategory}
use Rattle.icu_decimal.specs.declared.plurals.PluralCategory.TheVariants.{Zero, One, Two, Few, Many, Other}
use Rattle.icu_decimal.specs.Reading.{is_same}
use Rattle.locale_numbers_tables.specs.Entries.{all_of}
use Rattle.locale_numbers_tables.specs.Keys.{has_no_key_twice, table_at, table_in, without_key_twice}
use Rattle.locale_numbers_tables.proofs.KeyLemmas.{is_same_symmetric}
use Rattle.locale_numbers_tables.proofs.TableLemmas.{next_item, no_table, none_from, once_more, one_more}
use Rattle.locale_numbers_words.specs.Categories.{Slots, no_slots, slot_at, slots_of, with_slot}

module _ {K V : Type 0} (same : K → K → Bool) where
  -- another key is found as before
  pub at_other : (pairs : List (K × V)) (asked key : K) (value : V) → same asked key ≡ false
      → table_at same asked (pairs ++ (key, value) ∷ []) ≡ table_at same asked pairs
  at_other [] asked key value h = rw h refl
  at_other (pair ∷ pairs) asked key value h =
      elim (same asked pair.0) as (λ b. (if b then Some pair.1 else table_at same asked (pairs ++ (key, value) ∷ [])) ≡ (if b then Some pair.1 else table_at same asked pairs)) [
        | true ↦ refl
        | false ↦ at_other pairs asked key value h
      ]

  -- a new key is found after the others
  pub at_key : (pairs : List (K × V)) (key : K) (value : V) → table_at same key pairs ≡ None → same key key ≡ true
      → table_at same key (pairs ++ (key, value) ∷ []) ≡ Some value
  at_key [] key value fresh h = rw h refl
  at_key (pair ∷ pairs) key value fresh h = by (same key pair.0) fresh (λ e. at_key pairs key value e h)
    where
      by : (b : Bool) → (if b then Some pair.1 else table_at same key pairs) ≡ None
          → (table_at same key pairs ≡ None → table_at same key (pairs ++ (key, value) ∷ []) ≡ Some value)
          → (if b then Some pair.1 else table_at same key (pairs ++ (key, value) ∷ [])) ≡ Some value
      by true e later = absurd (cc)
      by false e later = later e

module _ {T : Type 0} where
  other_slot : (pairs : List (PluralCategory × T)) (asked category : PluralCategory) (value : T) → is_same asked category ≡ false
      → table_at is_same asked (pairs ++ (category, value) ∷ []) ≡ table_at is_same asked pairs
  other_slot pairs asked category value h = at_other is_same pairs asked category value h

  pub slots_more : (pairs : List (PluralCategory × T)) (category : PluralCategory) (value : T) → table_at is_same category pairs ≡ None
      → slots_of (pairs ++ (category, value) ∷ []) ≡ with_slot (slots_of pairs) category value
  slots_more pairs Zero value h = λ i. record {
    zero = at_key is_same pairs Zero value h refl i;
    one = other_slot pairs One Zero value refl i;
    two = other_slot pairs Two Zero value refl i;
    few = other_slot pairs Few Zero value refl i;
    many = other_slot pairs Many Zero value refl i;
    other = other_slot pairs Other Zero value refl i;
  }
  slots_more pairs One value h = λ i. record {
    zero = other_slot pairs Zero One value refl i;
    one = at_key is_same pairs One value h refl i;
    two = other_slot pairs Two One value refl i;
    few = other_slot pairs Few One value refl i;
    many = other_slot pairs Many One value refl i;
    other = other_slot pairs Other One value refl i;
  }
  slots_more pairs Two value h = λ i. record {
    zero = other_slot pairs Zero Two value refl i;
    one = other_slot pairs One Two value refl i;
    two = at_key is_same pairs Two value h refl i;
    few = other_slot pairs Few Two value refl i;
    many = other_slot pairs Many Two value refl i;
    other = other_slot pairs Other Two value refl i;
  }
  slots_more pairs Few value h = λ i. record {
    zero = other_slot pairs Zero Few value refl i;
    one = other_slot pairs One Few value refl i;
    two = other_slot pairs Two Few value refl i;
    few = at_key is_same pairs Few value h refl i;
    many = other_slot pairs Many Few value refl i;
    other = other_slot pairs Other Few value refl i;
  }
  slots_more pairs Many value h = λ i. record {
    zero = other_slot pairs Zero Many value refl i;
    one = other_slot pairs One Many value refl i;
    two = other_slot pairs Two Many value refl i;
    few = other_slot pairs Few Many value refl i;
    many = at_key is_same pairs Many value h refl i;
    other = other_slot pairs Other Many value refl i;
  }
  slots_more pairs Other value h = λ i. record {
    zero = other_slot pairs Zero Other value refl i;
    one = other_slot pairs One Other value refl i;
    two = other_slot pairs Two Other value refl i;
    few = other_slot pairs Few Other value refl i;
    many = other_slot pairs Many Other value refl i;
    other = at_key is_same pairs Other value h refl i;
  }

  pub slot_found : (pairs : List (PluralCategory × T)) (category : PluralCategory) → slot_at (slots_of pairs) category ≡ table_at is_same category pairs
  slot_found pairs Zero = refl
  slot_found pairs One = refl
  slot_found pairs Two = refl
  slot_found pairs Few = refl
  slot_found pairs Many = refl
  slot_found pairs Other = refl

pub all_of_none : {E : Type 0} (o : Option (List E)) → o ≡ option_map (λ (rest : List E). [] ++ rest) o
all_of_none None = refl
all_of_none (Some rest) = refl

-- slots as far as they are read: what they say of each category, and what is left of the items
pub record Gathered {T : Type 0} (read : Data → Option (PluralCategory × T)) (items rest : Items) (slots : Slots T) : Type 0 where
  pub done : List (PluralCategory × T)
  pub all : all_of read items ≡ option_map (λ (left : List (PluralCategory × T)). done ++ left) (all_of read rest)
  pub once : has_no_key_twice is_same done ≡ true
  pub held : slots ≡ slots_of done

module _ {T : Type 0} (read : Data → Option (PluralCategory × T)) where
  pub gathered_none : (items : Items) (slots : Slots T) → slots ≡ no_slots → Gathered read items items slots
  gathered_none items slots none = record { done = []; all = all_of_none (all_of read items); once = refl; held = none }

  no_slot : (values : List Value) (i : ℕ) (value : Value) (slots : Slots T) → Gathered read (items_view values) (items_view (drop i values)) slots
      → i < length values → value ≡ get_or values i value → read (view value) ≡ None → all_of read (items_view values) ≡ None
  no_slot values i value slots g below is none =
      let cons : drop i values ≡ value ∷ drop (i + 1) values = next_item values i value below is in
      let left : all_of read (items_view (drop i values)) ≡ None = ap (λ xs. all_of read (items_view xs)) cons ∙ rw none refl in
      g.all ∙ rw left refl

  -- an item is no slot
  pub gathered_bad : (values : List Value) (i : ℕ) (value : Value) (slots : Slots T) → Gathered read (items_view values) (items_view (drop i values)) slots
      → i < length values → value ≡ get_or values i value → read (view value) ≡ None → None ≡ option_map slots_of (table_in is_same read (items_view values))
  gathered_bad values i value slots g below is none = rw (no_slot values i value slots g below is none) refl

  -- a category is there already
  pub gathered_twice : (values : List Value) (i : ℕ) (value : Value) (slots : Slots T) (category : PluralCategory) (v : T)
      → Gathered read (items_view values) (items_view (drop i values)) slots → i < length values → value ≡ get_or values i value
      → read (view value) ≡ Some (category, v) → is_some (slot_at slots category) ≡ true → None ≡ option_map slots_of (table_in is_same read (items_view values))
  gathered_twice values i value slots category v g below is reads there =
      let more = one_more read values i value (category, v) g.done below is reads g.all in
      let found : is_some (table_at is_same category g.done) ≡ true = ap is_some (sym (slot_found g.done category)) ∙ ap (λ s. is_some (slot_at s category)) (sym g.held) ∙ there in
      let none : table_in is_same read (items_view values) ≡ None = no_table is_same is_same_symmetric read (items_view values) g.done category v _ more found in
      rw none refl

  -- one more slot
  pub gathered_more : (values : List Value) (i : ℕ) (value : Value) (slots after : Slots T) (category : PluralCategory) (v : T)
      → Gathered read (items_view values) (items_view (drop i values)) slots → i < length values → value ≡ get_or values i value
      → read (view value) ≡ Some (category, v) → is_some (slot_at slots category) ≡ false → after ≡ with_slot slots category v
      → Gathered read (items_view values) (items_view (drop (i + 1) values)) after
  gathered_more values i value slots after category v g below is reads absent put =
      let lacks : is_some (table_at is_same category g.done) ≡ false = ap is_some (sym (slot_found g.done category)) ∙ ap (λ s. is_some (slot_at s category)) (sym g.held) ∙ absent in
      let fresh : table_at is_same category g.done ≡ None = none_from (table_at is_same category g.done) lacks in
      record {
        done = g.done ++ (category, v) ∷ [];
        all = one_more read values i value (category, v) g.done below is reads g.all;
        once = once_more is_same is_same_symmetric g.done category v fresh g.once;
        held = put ∙ ap (λ s. with_slot s category v) g.held ∙ sym (slots_more g.done category v fresh);
      }

  whole_list : (o : Option (List (PluralCategory × T))) (done : List (PluralCategory × T)) → o ≡ Some (done ++ []) → has_no_key_twice is_same done ≡ true
      → option_and_then (without_key_twice is_same) o ≡ Some done
  whole_list o done is once = rw (is, append-nil, once) refl

  -- all slots
  pub gathered_all : (values : List Value) (i : ℕ) (slots : Slots T) → Gathered read (items_view values) (items_view (drop i values)) slots
      → length values ≤ i → Some slots ≡ option_map slots_of (table_in is_same read (items_view values))
  gathered_all values i slots g past =
      let rest : drop i values ≡ [] = drop_all i values past in
      let left : all_of read (items_view (drop i values)) ≡ Some [] = ap (λ xs. all_of read (items_view xs)) rest in
      let done : all_of read (items_view values) ≡ Some (g.done ++ []) = g.all ∙ rw left refl in
      rw (whole_list (all_of read (items_view values)) g.done done g.once) (ap Some g.held)
