use Rattle.std.proofs.Common.{◌≡◌, ◌+◌, ◌<◌, ◌^◌, drop, length}
use Rattle.std.specs.Prelude.{flat_map}
use Rattle.icu_locale_core_grammar.specs.Pieces.{hyphened}
use Rattle.icu_locale_core_subtag_lists.proofs.printing.pieces_length.Given as goal

abbrev pub invariant-loop-piece : goal.invariant-loop-piece
invariant-loop-piece g l = record {
  fits : l.length < 2 ^ 64;
  rest : length (flat_map hyphened l.pieces) ≡ l.length + length (flat_map hyphened (drop l.piece-index l.pieces));
}
