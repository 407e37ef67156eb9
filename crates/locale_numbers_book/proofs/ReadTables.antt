-- What holds of each entry that is read holds of each table that is found, whatever the tables are.
use Rattle.std.proofs.Common.{◌≡◌, Bool, true, false, List, [], ◌∷◌, Option, Some, None, option_map, Result, Ok, Err, subst, refl, if◌then◌else◌}
use Rattle.std.specs.List.{AllByRecursion}
use Rattle.std.specs.Option.{option_and_then}
use Rattle.serde_json.specs.Data.{Data, Items, no_items, item}
use Rattle.icu_decimal.specs.Choice.{answered, found_or, or_next}
use Rattle.icu_decimal.specs.declared.error.DataError.{DataError}
use Rattle.locale_numbers_tables.specs.Entries.{all_of}
use Rattle.locale_numbers_tables.specs.Keys.{table_at, table_in}
pub use Rattle.locale_numbers_units.proofs.EntryLemmas.{read_whole}

module _ {K V : Type 0} where
  -- an entry is made of a key and a table
  pub entry_by : (P : V → Type 0) (b : Bool) (k : Option K) (o : Option V) (pair : K × V)
      → (if b then option_and_then (λ key. option_map {T = V} {U = K × V} (λ v. (key, v)) o) k else None) ≡ Some pair
      → ((v : V) → o ≡ Some v → P v) → P pair.1
  entry_by P true (Some key) (Some v) pair is held = let one : (key, v) ≡ pair = cc in subst (λ p. P p.1) one (held v refl)
  entry_by P true (Some key) None pair is held = absurd (cc)
  entry_by P true None o pair is held = absurd (cc)
  entry_by P false k o pair is held = absurd (cc)

  module _ (P : V → Type 0) where
    -- what holds of each table of a list
    abbrev pub AllHold : List (K × V) → Type 0
    AllHold pairs = AllByRecursion (λ pair. P pair.1) pairs

    all_by : (o : Option (K × V)) (p : Option (List (K × V))) (pairs : List (K × V))
        → option_and_then (λ e. option_map {T = List (K × V)} {U = List (K × V)} (λ es. e ∷ es) p) o ≡ Some pairs
        → ((pair : K × V) → o ≡ Some pair → P pair.1) → ((ps : List (K × V)) → p ≡ Some ps → AllHold ps) → AllHold pairs
    all_by (Some pair) (Some ps) pairs is first rest = let one : pair ∷ ps ≡ pairs = cc in subst AllHold one (first pair refl, rest ps refl)
    all_by (Some pair) None pairs is first rest = absurd (cc)
    all_by None p pairs is first rest = absurd (cc)

    all_read : (read : Data → Option (K × V)) → ((entry : Data) (pair : K × V) → read entry ≡ Some pair → P pair.1)
        → (items : Items) (pairs : List (K × V)) → all_of read items ≡ Some pairs → AllHold pairs
    all_read read each no_items pairs is = let one : [] ≡ pairs = cc in subst AllHold one tt
    all_read read each (item d ds) pairs is = all_by (read d) (all_of read ds) pairs is (each d) (all_read read each ds)

    -- each table of an array holds it, where each entry does
    pub table_holds : (same : K → K → Bool) (read : Data → Option (K × V)) → ((entry : Data) (pair : K × V) → read entry ≡ Some pair → P pair.1)
        → (items : Items) (pairs : List (K × V)) → table_in same read items ≡ Some pairs → AllHold pairs
    table_holds same read each items pairs is = all_read read each items pairs (read_whole same (all_of read items) pairs is)

    -- and so does the table under a key
    pub under_holds : (same : K → K → Bool) (key : K) (pairs : List (K × V)) (v : V) → AllHold pairs → table_at same key pairs ≡ Some v → P v
    under_holds same key [] v all is = absurd (cc)
    under_holds same key (pair ∷ pairs) v all is = by (same key pair.0) is (under_holds same key pairs v all.1)
      where
        by : (b : Bool) → (if b then Some pair.1 else table_at same key pairs) ≡ Some v → (table_at same key pairs ≡ Some v → P v) → P v
        by true one later = let whole : pair.1 ≡ v = cc in subst P whole all.0
        by false one later = later one

-- what is answered is there
pub is_there : {V : Type 0} (o : Option V) (v : V) → answered o ≡ Ok v → o ≡ Some v
is_there None v is = absurd (cc)
is_there (Some w) v is = let one : w ≡ v = cc in subst (λ x. Some w ≡ Some x) one refl

-- what is answered by the first, or by the next
pub next_holds : {V : Type 0} (P : V → Type 0) (r next : Result V DataError) (v : V) → ((w : V) → r ≡ Ok w → P w) → (next ≡ Ok v → P v) → or_next r next ≡ Ok v → P v
next_holds P (Ok w) next v first later is = let whole : w ≡ v = cc in subst P whole (first w refl)
next_holds P (Err DataError.IdentifierNotFound) next v first later is = later is
next_holds P (Err DataError.InvalidRequest) next v first later is = absurd (cc)
next_holds P (Err DataError.Decreasing) next v first later is = absurd (cc)
next_holds P (Err DataError.TooManyZeros) next v first later is = absurd (cc)
next_holds P (Err DataError.AboveType) next v first later is = absurd (cc)
next_holds P (Err DataError.Memory) next v first later is = absurd (cc)
next_holds P (Err DataError.Custom) next v first later is = absurd (cc)

-- what is found first is answered for one of the identifiers
pub first_holds : {I V : Type 0} (P : V → Type 0) (f : I → Result V DataError) → ((id : I) (v : V) → f id ≡ Ok v → P v)
    → (otherwise : DataError) (ids : List I) (v : V) → found_or f otherwise ids ≡ Ok v → P v
first_holds P f each otherwise [] v is = absurd (cc)
first_holds P f each otherwise (id ∷ ids) v is =
    next_holds P (f id) (found_or f DataError.IdentifierNotFound ids) v (each id) (first_holds P f each DataError.IdentifierNotFound ids v) is
