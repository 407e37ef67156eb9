use Rattle.std.proofs.Common.{◌≡◌, ◌++◌, [], map, option_map, true}
use Rattle.std.specs.Vec.Iter.{into_iter_items}
use Rattle.indexmap.specs.IndexMap.{hasher_of}
use Rattle.serde_json.specs.View.{items_view}
use Rattle.locale_numbers_tables.specs.Allocation.{begins_with}
use Rattle.locale_numbers_tables.specs.Entries.{all_of}
use Rattle.locale_numbers_tables.specs.Keys.{has_no_key_twice}
use Rattle.locale_numbers_units.specs.Faults.{first_fault_after, under_key}
use Rattle.locale_numbers_units.proofs.tables.fill.Given as goal

abbrev pub invariant-loop-entry : goal.invariant-loop-entry
invariant-loop-entry g l =
    record {
      all : all_of (under_key g.A.UnitArray.key_in g.A.UnitArray.said_in) (items_view l.fn.entries.items)
          ≡ option_map (λ rest. l.table.entries ++ rest) (all_of (under_key g.A.UnitArray.key_in g.A.UnitArray.said_in) (items_view (into_iter_items l.entry-iterator)));
      once : has_no_key_twice g.A.Key.PartialEq.eq l.table.entries ≡ true;
      left : first_fault_after g.A.Key.PartialEq.eq g.A.UnitArray.key_in g.A.UnitArray.fault_in (map (λ pair. pair.0) l.table.entries) (items_view (into_iter_items l.entry-iterator))
          ≡ first_fault_after g.A.Key.PartialEq.eq g.A.UnitArray.key_in g.A.UnitArray.fault_in [] (items_view l.fn.entries.items);
      seeded : hasher_of l.table ≡ hasher_of l.fn.table;
      first : begins_with g.A.UnitArray.may_grow (items_view (into_iter_items l.entry-iterator)) ≡ true → begins_with g.A.UnitArray.may_grow (items_view l.fn.entries.items) ≡ true;
    }
