use Rattle.std.proofs.Common.{◌≡◌, ◌+◌, length}
use Rattle.locale_numbers_book.specs.Tables.{usual_locales}
use Rattle.locale_numbers_book.proofs.locales.usual_count.Given as goal

abbrev pub invariant-loop-id : goal.invariant-loop-id
invariant-loop-id l = l.count + length (usual_locales l.id-iterator) ≡ length (usual_locales l.symbols.entries)
