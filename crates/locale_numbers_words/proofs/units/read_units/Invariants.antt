use Rattle.std.proofs.Common.{◌≡◌, ◌++◌, ℕ, List, Option, drop, option_map}
use Rattle.serde_json.specs.View.{items_view}
use Rattle.locale_numbers_tables.specs.Entries.{all_of}
use Rattle.locale_numbers_words.specs.Entries.{UnitTexts, unit_in}
use Rattle.locale_numbers_words.proofs.units.read_units.Given as goal

abbrev pub invariant-loop-item : goal.invariant-loop-item
invariant-loop-item l = all_of unit_in (items_view l.items)
    ≡ option_map (λ (rest : List (Option (List ℕ) × UnitTexts)). l.list.items ++ rest) (all_of unit_in (items_view (drop l.item-index l.items)))
