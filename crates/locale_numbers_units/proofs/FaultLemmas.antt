-- The first faulty entry, and the error that tells it: `specs/Faults.antt`, and `Telling.antt` of `locale_numbers_tables`.
use Rattle.std.proofs.Common.{◌≡◌, ◌⊎◌, Bool, true, false, not, List, Option, Some, None, is_some, refl, sym, ap, subst, ◌∙◌}
use Rattle.std.specs.List.{list_any}
use Rattle.std.specs.Option.{option_or}
use Rattle.serde_json.specs.Data.{Data, Items, item, no_items}
use Rattle.locale_numbers_tables.specs.Faults.{is_among}
use Rattle.locale_numbers_tables.specs.Keys.{table_at}
use Rattle.locale_numbers_tables.proofs.FaultLemmas.{among_keys, keys_of, told_at, told_first, told_twice}
use Rattle.locale_numbers_tables.specs.declared.BookError.{BookError}
use Rattle.locale_numbers_tables.specs.declared.BookError.TheVariants.{Duplicate, Memory}
use Rattle.locale_numbers_units.specs.Faults.{first_fault_after}
use Rattle.locale_numbers_tables.specs.Telling.{IsTold}

alone : (o : Option BookError) → option_or o None ≡ o
alone None = refl
alone (Some e) = refl

module _ {K V : Type 0} (same : K → K → Bool) (key : Data → Option K) (fault : Bool → Data → Option BookError) where
  abbrev pub faults_after : List (K × V) → Items → Option BookError
  faults_after pairs items = first_fault_after same key fault (keys_of pairs) items

  -- a fault whose entry has it whether or not its key is new
  pub told_anyway : (pairs : List (K × V)) (entry : Data) (e : BookError) → ((is_new : Bool) → IsTold (fault is_new entry) e)
      → IsTold (faults_after pairs (item entry no_items)) e
  told_anyway pairs entry e told =
      let is_new = not (is_among same (keys_of pairs) (key entry)) in
      told_first (fault is_new entry) None e (told is_new)

  -- a key that is there already is the fault of its entry
  pub doubled : (pairs : List (K × V)) (entry : Data) (k : K) → fault false entry ≡ Some Duplicate → key entry ≡ Some k → is_some (table_at same k pairs) ≡ true
      → faults_after pairs (item entry no_items) ≡ Some Duplicate
  doubled pairs entry k sound keyed there =
      let old : list_any (same k) (keys_of pairs) ≡ true = among_keys same k pairs ∙ there in
      rw (keyed, old, sound) refl

  -- the fault of an entry whose key is new
  pub told_new : (pairs : List (K × V)) (entry : Data) (k : K) (e : BookError) → key entry ≡ Some k → table_at same k pairs ≡ None → IsTold (fault true entry) e
      → IsTold (faults_after pairs (item entry no_items)) e
  told_new pairs entry k e keyed fresh told =
      let new : list_any (same k) (keys_of pairs) ≡ false = among_keys same k pairs ∙ ap is_some fresh in
      let is_new : not (is_among same (keys_of pairs) (key entry)) ≡ true = rw (keyed, new) refl in
      let same_fault : fault true entry ≡ fault (not (is_among same (keys_of pairs) (key entry))) entry = ap (λ b. fault b entry) (sym is_new) in
      told_first (fault (not (is_among same (keys_of pairs) (key entry))) entry) None e (told_at _ _ e same_fault told)

  -- a key that is there already, or out of memory, once the entry is read
  pub told_added : (pairs : List (K × V)) (entry : Data) (k : K) (e : BookError) → fault false entry ≡ Some Duplicate → key entry ≡ Some k → (e ≡ Duplicate) ⊎ (e ≡ Memory)
      → (e ≡ Duplicate → is_some (table_at same k pairs) ≡ true) → IsTold (faults_after pairs (item entry no_items)) e
  told_added pairs entry k e sound keyed only twice =
      told_twice (faults_after pairs (item entry no_items)) e only (λ is. doubled pairs entry k sound keyed (twice is))

  -- the fault of an entry that may be twice: that it is, or its own
  pub told_under : (pairs : List (K × V)) (entry : Data) (k : K) (e told : BookError) → fault false entry ≡ Some Duplicate → key entry ≡ Some k → IsTold (fault true entry) e
      → (is_some (table_at same k pairs) ≡ true → told ≡ Duplicate) → (table_at same k pairs ≡ None → told ≡ e)
      → IsTold (faults_after pairs (item entry no_items)) told
  told_under pairs entry k e told sound keyed says twice fresh = by (table_at same k pairs) refl twice fresh
    where
      by : (o : Option V) → table_at same k pairs ≡ o → (is_some o ≡ true → told ≡ Duplicate) → (o ≡ None → told ≡ e) → IsTold (faults_after pairs (item entry no_items)) told
      by None is twice fresh = subst (IsTold (faults_after pairs (item entry no_items))) (sym (fresh refl)) (told_new pairs entry k e keyed is says)
      by (Some v) is twice fresh =
          subst (IsTold (faults_after pairs (item entry no_items))) (sym (twice refl))
          (told_at (Some Duplicate) (faults_after pairs (item entry no_items)) Duplicate (sym (doubled pairs entry k sound keyed (ap is_some is))) refl)

  -- the fault of an entry is the first one of those that begin with it
  pub told_entry : (pairs : List (K × V)) (entry : Data) (rest : Items) (e : BookError) → IsTold (faults_after pairs (item entry no_items)) e
      → IsTold (faults_after pairs (item entry rest)) e
  told_entry pairs entry rest e told =
      let here = fault (not (is_among same (keys_of pairs) (key entry))) entry in
      told_first here _ e (told_at (option_or here None) here e (alone here) told)
