use Rattle.std.proofs.Common.{◌≡◌, length, ap, arith}
use Rattle.std.specs.Prelude.{flat_map}
use Rattle.std.proofs.Common.{drop}
use Rattle.icu_locale_core_grammar.specs.Pieces.{hyphened}
use Rattle.icu_locale_core_subtag_lists.proofs.PrintingLemmas.{no_piece}
use Rattle.icu_locale_core_subtag_lists.proofs.printing.pieces_length.Goals as goal

pub returns : goal.returns
returns g c =
    let n = c.loop-piece.length in
    let none : length (flat_map hyphened (drop c.loop-piece.piece-index c.args.pieces.now)) ≡ 0 = ap length (no_piece c.args.pieces.now c.loop-piece.piece-index c.loop-piece-test.false) in
    (omega (arith, none, c.loop-piece.invariant), omega (arith, none, c.loop-piece.invariant))
