use Rattle.std.proofs.Common.{◌≡◌, true}
use Rattle.std.specs.Vec.Iter.{into_iter_items}
use Rattle.serde_json.specs.View.{items_view}
use Rattle.locale_numbers_tables.specs.Allocation.{begins_with}
use Rattle.locale_numbers_words.specs.Faults.{first_fault_after, table_after}
use Rattle.locale_numbers_words.proofs.tables.fill.Given as goal

abbrev pub invariant-loop-entry : goal.invariant-loop-entry
invariant-loop-entry g l =
    record {
      table : table_after g.A.Key.PartialEq.eq g.A.WordArray.key_in g.A.WordArray.said_in l.table.entries (items_view (into_iter_items l.entry-iterator))
          ≡ table_after g.A.Key.PartialEq.eq g.A.WordArray.key_in g.A.WordArray.said_in l.initial.table.entries (items_view l.fn.entries.items);
      left : first_fault_after g.A.Key.PartialEq.eq g.A.WordArray.key_in g.A.WordArray.said_in g.A.WordArray.fault_in l.table.entries (items_view (into_iter_items l.entry-iterator))
          ≡ first_fault_after g.A.Key.PartialEq.eq g.A.WordArray.key_in g.A.WordArray.said_in g.A.WordArray.fault_in l.initial.table.entries (items_view l.fn.entries.items);
      first : begins_with g.A.WordArray.may_grow (items_view (into_iter_items l.entry-iterator)) ≡ true → begins_with g.A.WordArray.may_grow (items_view l.fn.entries.items) ≡ true;
    }
