use Rattle.std.proofs.Common.{◌≡◌, length}
use Rattle.icu_locale_core_langid.proofs.SeenLemmas.{AreSeen}
use Rattle.icu_locale_core_langid.proofs.spelling.are_among.Given as goal

abbrev pub invariant-loop-piece : goal.invariant-loop-piece
invariant-loop-piece g l = record {
  room : length l.seen ≡ g.row.N;
  seen : AreSeen l.variants l.seen l.piece-iterator l.fn.pieces;
}
