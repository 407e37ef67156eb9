use Rattle.std.proofs.Common.{◌≡◌, ◌++◌, map, string_bytes, drop}
use Rattle.locale_numbers_book.specs.EntryFields.{opening}
use Rattle.locale_numbers_book.proofs.texts.entries.put_openings.Given as goal

abbrev pub invariant-loop-first : goal.invariant-loop-first
invariant-loop-first g l = map string_bytes l.openings.items ++ map opening (map g.S.AsStr.text (drop l.first-index l.firsts))
    ≡ map string_bytes l.initial.openings.items ++ map opening (map g.S.AsStr.text l.firsts)
