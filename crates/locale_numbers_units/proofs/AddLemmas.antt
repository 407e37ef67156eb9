-- One more entry in a table: `specs/Adding.antt`.
use Rattle.std.proofs.Common.{◌≡◌, Bool, true, false, List, ◌++◌, Option, Some, is_some, option_map, refl, ap, ◌∙◌}
use Rattle.std.specs.List.{list_any}
use Rattle.serde_json.specs.Data.{Data, Items, item}
use Rattle.locale_numbers_tables.specs.Entries.{all_of}
use Rattle.locale_numbers_tables.specs.Keys.{has_no_key_twice}
use Rattle.locale_numbers_tables.proofs.TableLemmas.{once_more, moved}
use Rattle.locale_numbers_tables.proofs.FaultLemmas.{among_keys, keys_more, keys_of}
use Rattle.locale_numbers_tables.specs.declared.BookError.{BookError}
use Rattle.locale_numbers_units.specs.Adding.{Adds}
use Rattle.locale_numbers_units.specs.Faults.{under_key}
use Rattle.locale_numbers_units.proofs.FaultLemmas.{faults_after}

-- what an entry says under its key
pub said_under : {K V : Type 0} (key : Data → Option K) (said : Data → Option V) (entry : Data) (k : K) (v : V) → key entry ≡ Some k → said entry ≡ Some v
    → under_key key said entry ≡ Some (k, v)
said_under key said entry k v keyed says = rw (keyed, says) refl

module _ {K V : Type 0} (same : K → K → Bool) (key : Data → Option K) (said : Data → Option V) (fault : Bool → Data → Option BookError) where
  -- an entry that was added is passed
  pub passed : (entry : Data) (items : Items) (before after : List (K × V)) → Adds same key said fault entry before after
      → faults_after same key fault before (item entry items) ≡ faults_after same key fault after items
  passed entry items before after adds =
      let new : list_any (same adds.pair.0) (keys_of before) ≡ false = among_keys same adds.pair.0 before ∙ ap is_some adds.fresh in
      rw (adds.keyed, new, adds.sound, adds.added, keys_more before adds.pair.0 adds.pair.1) refl

  pub one_more_said : (all : Option (List (K × V))) (entry : Data) (items : Items) (before after : List (K × V)) → Adds same key said fault entry before after
      → all ≡ option_map (λ (rest : List (K × V)). before ++ rest) (all_of (under_key key said) (item entry items))
      → all ≡ option_map (λ (rest : List (K × V)). after ++ rest) (all_of (under_key key said) items)
  one_more_said all entry items before after adds left =
      left ∙ rw (adds.says, adds.added) (moved adds.pair before (all_of (under_key key said) items))

  pub still_once : (entry : Data) (before after : List (K × V)) → ((a b : K) → same a b ≡ same b a) → Adds same key said fault entry before after
      → has_no_key_twice same before ≡ true → has_no_key_twice same after ≡ true
  still_once entry before after symmetric adds once =
      rw adds.added (once_more same symmetric before adds.pair.0 adds.pair.1 adds.fresh once)
