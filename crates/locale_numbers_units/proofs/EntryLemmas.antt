-- What holds of each entry without a fault holds of each entry of a table: `specs/Faults.antt`.
use Rattle.std.proofs.Common.{◌≡◌, Bool, true, false, not, List, [], ◌∷◌, ◌++◌, Option, Some, None, option_map, refl, subst, if◌then◌else◌}
use Rattle.std.specs.List.{AllByRecursion}
use Rattle.std.specs.Option.{option_and_then, option_or}
use Rattle.std.specs.Prelude.{option_to_list}
use Rattle.serde_json.specs.Data.{Data, Items, no_items, item}
use Rattle.locale_numbers_tables.specs.Entries.{all_of}
use Rattle.locale_numbers_tables.specs.Faults.{is_among}
use Rattle.locale_numbers_tables.specs.Keys.{has_no_key_twice, without_key_twice}
use Rattle.locale_numbers_tables.specs.declared.BookError.{BookError}
use Rattle.locale_numbers_units.specs.Faults.{first_fault_after, under_key}

-- of two faults there is neither
pub first_none : (a b : Option BookError) → option_or a b ≡ None → a ≡ None
first_none None b e = refl
first_none (Some x) b e = absurd (cc)

pub second_none : (a b : Option BookError) → option_or a b ≡ None → b ≡ None
second_none None b e = e
second_none (Some x) b e = absurd (cc)

-- the entries of a table without a key twice are all that were read
pub read_whole : {K V : Type 0} (same : K → K → Bool) (o : Option (List (K × V))) (pairs : List (K × V)) → option_and_then (without_key_twice same) o ≡ Some pairs → o ≡ Some pairs
read_whole same None pairs is = absurd (cc)
read_whole {K} {V} same (Some ps) pairs is = by (has_no_key_twice same ps) is
  where
    by : (b : Bool) → (if b then Some ps else None) ≡ Some pairs → Some ps ≡ Some pairs
    by true one = one
    by false one = absurd (cc)

module _ {K V : Type 0} (P : V → Type 0) where
  -- what holds of what each entry of a list says
  abbrev pub AllSaid : List (K × V) → Type 0
  AllSaid pairs = AllByRecursion (λ pair. P pair.1) pairs

  said_by : (k : Option K) (o : Option V) (p : Option (List (K × V))) (pairs : List (K × V))
      → option_and_then (λ e. option_map {T = List (K × V)} {U = List (K × V)} (λ es. e ∷ es) p)
      (option_and_then (λ key. option_map {T = V} {U = K × V} (λ v. (key, v)) o) k) ≡ Some pairs
      → ((v : V) → o ≡ Some v → P v) → ((ps : List (K × V)) → p ≡ Some ps → AllSaid ps) → AllSaid pairs
  said_by (Some key) (Some v) (Some ps) pairs is first rest = let one : (key, v) ∷ ps ≡ pairs = cc in subst AllSaid one (first v refl, rest ps refl)
  said_by (Some key) (Some v) None pairs is first rest = absurd (cc)
  said_by (Some key) None p pairs is first rest = absurd (cc)
  said_by None o p pairs is first rest = absurd (cc)

  module _ (same : K → K → Bool) (key : Data → Option K) (said : Data → Option V) (fault : Bool → Data → Option BookError)
      (each : (is_new : Bool) (entry : Data) (v : V) → fault is_new entry ≡ None → said entry ≡ Some v → P v) where
    sound_said : (items : Items) (before : List K) (pairs : List (K × V)) → all_of (under_key key said) items ≡ Some pairs
        → first_fault_after same key fault before items ≡ None → AllSaid pairs
    sound_said no_items before pairs is none = let one : [] ≡ pairs = cc in subst AllSaid one tt
    sound_said (item d ds) before pairs is none =
        said_by (key d) (said d) (all_of (under_key key said) ds) pairs is
        (λ v there. each (not (is_among same before (key d))) d v (first_none _ _ none) there)
        (λ ps there. sound_said ds (before ++ option_to_list (key d)) ps there (second_none (fault (not (is_among same before (key d))) d) _ none))

    -- each entry of an array without a fault
    pub all_said : (items : Items) (pairs : List (K × V)) → option_and_then (without_key_twice same) (all_of (under_key key said) items) ≡ Some pairs
        → first_fault_after same key fault [] items ≡ None → AllSaid pairs
    all_said items pairs is none = sound_said items [] pairs (read_whole same (all_of (under_key key said) items) pairs is) none
