-- One more entry in a table: `specs/Adding.antt`.
use Rattle.std.proofs.Common.{◌≡◌, Bool, true, false, List, ◌++◌, Option, None, Some, is_some, option_map, refl, ap, ◌∙◌}
use Rattle.std.specs.List.{list_any}
use Rattle.serde_json.specs.Data.{Data, Items, item, no_items}
use Rattle.locale_numbers_faults.specs.declared.BookError.{BookError}
use Rattle.locale_numbers_faults.specs.declared.BookError.TheVariants.{Duplicate}
use Rattle.locale_numbers_tables.specs.Adding.{Adds}
use Rattle.locale_numbers_tables.specs.Entries.{all_of}
use Rattle.locale_numbers_tables.specs.Faults.{first_fault_after}
use Rattle.locale_numbers_tables.specs.Keys.{has_no_key_twice, table_at}
use Rattle.locale_numbers_tables.proofs.TableLemmas.{once_more, moved}
use Rattle.locale_numbers_tables.proofs.FaultLemmas.{among_keys, keys_more, keys_of}

module _ {K V : Type 0} (same : K → K → Bool) (key : Data → Option K) (fault : Data → Option BookError) where
  abbrev pub faults_after : List (K × V) → Items → Option BookError
  faults_after pairs items = first_fault_after same key fault (keys_of pairs) items

  -- a key that is there already is the fault of its entry
  pub doubled : (pairs : List (K × V)) (entry : Data) (k : K) → fault entry ≡ None → key entry ≡ Some k → is_some (table_at same k pairs) ≡ true
      → faults_after pairs (item entry no_items) ≡ Some Duplicate
  doubled pairs entry k sound keyed there =
      let old : list_any (same k) (keys_of pairs) ≡ true = among_keys same k pairs ∙ there in
      rw (sound, keyed, old) refl

module _ {K V : Type 0} (same : K → K → Bool) (meaning : Data → Option (K × V)) (key : Data → Option K) (fault : Data → Option BookError) where
  -- an entry that was added is passed
  pub passed : (entry : Data) (items : Items) (before after : List (K × V)) → Adds same meaning key fault entry before after
      → faults_after same key fault before (item entry items) ≡ faults_after same key fault after items
  passed entry items before after adds =
      let new : list_any (same adds.pair.0) (keys_of before) ≡ false = among_keys same adds.pair.0 before ∙ ap is_some adds.fresh in
      rw (adds.sound, adds.keyed, new, adds.added, keys_more before adds.pair.0 adds.pair.1) refl

  pub one_more_said : (all : Option (List (K × V))) (entry : Data) (items : Items) (before after : List (K × V)) → Adds same meaning key fault entry before after
      → all ≡ option_map (λ (rest : List (K × V)). before ++ rest) (all_of meaning (item entry items))
      → all ≡ option_map (λ (rest : List (K × V)). after ++ rest) (all_of meaning items)
  one_more_said all entry items before after adds left =
      left ∙ rw (adds.says, adds.added) (moved adds.pair before (all_of meaning items))

  pub still_once : (entry : Data) (before after : List (K × V)) → ((a b : K) → same a b ≡ same b a) → Adds same meaning key fault entry before after
      → has_no_key_twice same before ≡ true → has_no_key_twice same after ≡ true
  still_once entry before after symmetric adds once =
      rw adds.added (once_more same symmetric before adds.pair.0 adds.pair.1 adds.fresh once)
