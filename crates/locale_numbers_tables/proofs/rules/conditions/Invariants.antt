use Rattle.std.proofs.Common.{◌≡◌, ◌++◌, ℕ, List, drop, option_map, true}
use Rattle.serde_json.specs.View.{items_view}
use Rattle.icu_decimal.specs.declared.plurals.PluralCategory.{PluralCategory}
use Rattle.icu_decimal.specs.Reading.{is_same, pairs_of}
use Rattle.locale_numbers_tables.specs.Entries.{all_of}
use Rattle.locale_numbers_tables.specs.Keys.{has_no_key_twice}
use Rattle.locale_numbers_tables.specs.RulesEntries.{condition_in}
use Rattle.locale_numbers_tables.proofs.rules.conditions.Given as goal

abbrev pub invariant-loop-item : goal.invariant-loop-item
invariant-loop-item l =
    record {
      all : all_of condition_in (items_view l.items)
          ≡ option_map (λ (rest : List (PluralCategory × List ℕ)). pairs_of l.list.items ++ rest) (all_of condition_in (items_view (drop l.item-index l.items)));
      once : has_no_key_twice is_same (pairs_of l.list.items) ≡ true;
    }
