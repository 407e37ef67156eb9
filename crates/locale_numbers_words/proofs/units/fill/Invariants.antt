use Rattle.std.proofs.Common.{◌≡◌, ◌++◌, option_map, true}
use Rattle.std.specs.Str.{bytes_eq}
use Rattle.std.specs.Vec.Iter.{into_iter_items}
use Rattle.locale_numbers_tables.specs.Keys.{has_no_key_twice}
use Rattle.locale_numbers_words.specs.Entries.{UnitList, all_named}
use Rattle.locale_numbers_words.proofs.units.fill.Given as goal

abbrev pub invariant-loop-name : goal.invariant-loop-name
invariant-loop-name l =
    record {
      all : all_named l.fn.units.items ≡ option_map (λ (rest : UnitList). l.map.entries ++ rest) (all_named (into_iter_items l.name-iterator));
      once : has_no_key_twice bytes_eq l.map.entries ≡ true;
    }
