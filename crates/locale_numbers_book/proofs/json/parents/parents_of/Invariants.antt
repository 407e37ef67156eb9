use Rattle.std.proofs.Common.{◌≡◌, ◌++◌, [], option_map, true}
use Rattle.std.specs.Vec.Iter.{into_iter_items}
use Rattle.serde_json.specs.View.{items_view}
use Rattle.locale_numbers_tables.specs.Entries.{all_of}
use Rattle.locale_numbers_book.specs.ParentEntries.{parent_entry, parents_faults}
use Rattle.locale_numbers_tables.specs.Allocation.{begins_with}
use Rattle.locale_numbers_book.specs.BookAllocation.{parent_may_grow}
use Rattle.locale_numbers_book.proofs.json.parents.parents_of.Given as goal

abbrev pub invariant-loop-entry : goal.invariant-loop-entry
invariant-loop-entry l =
    record {
      all : all_of parent_entry (items_view l.fn.entries.items)
          ≡ option_map (λ rest. l.parents ++ rest) (all_of parent_entry (items_view (into_iter_items l.entry-iterator)));
      left : parents_faults l.parents (items_view (into_iter_items l.entry-iterator)) ≡ parents_faults [] (items_view l.fn.entries.items);
      first : begins_with (parent_may_grow l.parents) (items_view (into_iter_items l.entry-iterator)) ≡ true → begins_with (parent_may_grow []) (items_view l.fn.entries.items) ≡ true;
    }
