use Rattle.std.proofs.Common.{◌≡◌, ◌++◌, map, string_bytes, drop}
use Rattle.std.specs.List.{filter_map}
use Rattle.locale_numbers_book.specs.EntryFields.{opening, third_field}
use Rattle.locale_numbers_book.proofs.texts.small_book.put_named.Given as goal

abbrev pub invariant-loop-entry : goal.invariant-loop-entry
invariant-loop-entry l = map string_bytes l.openings.items ++ map opening (filter_map third_field (map (λ line. line.now) (drop l.entry-index l.symbols)))
    ≡ map string_bytes l.initial.openings.items ++ map opening (filter_map third_field (map (λ line. line.now) l.symbols))
