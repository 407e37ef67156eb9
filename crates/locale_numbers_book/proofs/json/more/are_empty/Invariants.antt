use Rattle.std.proofs.Common.{◌≡◌, drop}
use Rattle.serde_json.specs.View.{items_view}
use Rattle.locale_numbers_tables.specs.CompactEntries.{each}
use Rattle.locale_numbers_tables.specs.Entries.{has_count}
use Rattle.locale_numbers_book.proofs.json.more.are_empty.Given as goal

abbrev pub invariant-loop-value : goal.invariant-loop-value
invariant-loop-value l = each (λ value. has_count 0 value) (items_view (drop l.value-index l.values)) ≡ each (λ value. has_count 0 value) (items_view l.values)
