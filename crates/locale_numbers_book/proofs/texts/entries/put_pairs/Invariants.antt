use Rattle.std.proofs.Common.{◌≡◌, ◌++◌, map, string_bytes, drop}
use Rattle.locale_numbers_book.specs.EntryFields.{opening_of_two}
use Rattle.locale_numbers_book.proofs.texts.entries.put_pairs.Given as goal

abbrev pub invariant-loop-second : goal.invariant-loop-second
invariant-loop-second l = map string_bytes l.openings.items ++ map (opening_of_two l.fn.first) (map (λ second. second.now) (drop l.second-index l.seconds))
    ≡ map string_bytes l.initial.openings.items ++ map (opening_of_two l.fn.first) (map (λ second. second.now) l.seconds)
