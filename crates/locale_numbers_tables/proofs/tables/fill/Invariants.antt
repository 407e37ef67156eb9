use Rattle.std.proofs.Common.{◌≡◌, ◌++◌, [], map, option_map, true}
use Rattle.std.specs.Vec.Iter.{into_iter_items}
use Rattle.indexmap.specs.IndexMap.{hasher_of}
use Rattle.serde_json.specs.View.{items_view}
use Rattle.locale_numbers_tables.specs.Entries.{all_of}
use Rattle.locale_numbers_tables.specs.Faults.{first_fault_after}
use Rattle.locale_numbers_tables.specs.Keys.{has_no_key_twice}
use Rattle.locale_numbers_tables.specs.Allocation.{begins_with}
use Rattle.locale_numbers_tables.proofs.tables.fill.Given as goal

abbrev pub invariant-loop-entry : goal.invariant-loop-entry
invariant-loop-entry g l =
    record {
      all : all_of g.V.Entry.meaning (items_view l.fn.entries.items)
          ≡ option_map (λ rest. l.table.entries ++ rest) (all_of g.V.Entry.meaning (items_view (into_iter_items l.entry-iterator)));
      once : has_no_key_twice g.V.Key.PartialEq.eq l.table.entries ≡ true;
      left : first_fault_after g.V.Key.PartialEq.eq g.V.Entry.key_in g.V.Entry.fault_in (map (λ pair. pair.0) l.table.entries) (items_view (into_iter_items l.entry-iterator))
          ≡ first_fault_after g.V.Key.PartialEq.eq g.V.Entry.key_in g.V.Entry.fault_in [] (items_view l.fn.entries.items);
      seeded : hasher_of l.table ≡ hasher_of l.fn.table;
      first : begins_with g.V.Entry.may_grow (items_view (into_iter_items l.entry-iterator)) ≡ true → begins_with g.V.Entry.may_grow (items_view l.fn.entries.items) ≡ true;
    }
