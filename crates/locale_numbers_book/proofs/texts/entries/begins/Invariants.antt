use Rattle.std.proofs.Common.{◌≡◌, map, string_bytes, drop}
use Rattle.locale_numbers_book.specs.EntryFields.{begins}
use Rattle.locale_numbers_book.proofs.texts.entries.begins.Given as goal

abbrev pub invariant-loop-front : goal.invariant-loop-front
invariant-loop-front l = begins (map string_bytes l.openings) l.line ≡ begins (map string_bytes (drop l.front-index l.openings)) l.line
