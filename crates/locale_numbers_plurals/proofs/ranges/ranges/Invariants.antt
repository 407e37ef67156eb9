use Rattle.std.proofs.Common.{◌≡◌, ◌++◌, List, drop, option_map}
use Rattle.serde_json.specs.View.{items_view}
use Rattle.icu_plurals.specs.declared.PluralRange.{PluralRange}
use Rattle.locale_numbers_tables.specs.Entries.{all_of}
use Rattle.locale_numbers_plurals.specs.RangesEntries.{range_in}
use Rattle.locale_numbers_plurals.proofs.ranges.ranges.Given as goal

abbrev pub invariant-loop-item : goal.invariant-loop-item
invariant-loop-item l = all_of range_in (items_view l.items) ≡ option_map (λ (rest : List PluralRange). l.list.items ++ rest) (all_of range_in (items_view (drop l.item-index l.items)))
