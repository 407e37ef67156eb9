use Rattle.std.proofs.Common.{◌≡◌, ◌++◌, map, string_bytes, drop}
use Rattle.std.specs.List.{flat_map}
use Rattle.locale_numbers_book.specs.EntryFields.{opening_of_two}
use Rattle.locale_numbers_book.proofs.texts.entries.put_all_pairs.Given as goal

abbrev pub invariant-loop-first : goal.invariant-loop-first
invariant-loop-first g l =
    map string_bytes l.openings.items ++ flat_map (λ first. map (opening_of_two first) (map (λ second. second.now) l.seconds)) (map g.S.AsStr.text (drop l.first-index l.firsts))
    ≡ map string_bytes l.initial.openings.items ++ flat_map (λ first. map (opening_of_two first) (map (λ second. second.now) l.seconds)) (map g.S.AsStr.text l.firsts)
