use Rattle.std.proofs.Common.{◌≡◌, slice_get}
use Rattle.locale_numbers_book.specs.Tables.{usual_locales}
use Rattle.locale_numbers_book.proofs.locales.usual_locale.Given as goal

abbrev pub invariant-loop-id : goal.invariant-loop-id
invariant-loop-id l = slice_get (usual_locales l.id-iterator) l.left ≡ slice_get (usual_locales l.symbols.entries) l.fn.index
