use Rattle.std.proofs.Common.{◌∷◌, ◌++◌, []}
use Rattle.writeable.specs.AnnotatedText.{bytes}
use Rattle.writeable.specs.Taking.{on_err}
use Rattle.writeable.proofs.WritingLemmas.{writing_goes_on, writing_stops, writing_ends}
use Rattle.icu_locale_core_grammar.specs.Pieces.{hyphen}
use Rattle.icu_locale_core_subtag_lists.proofs.PrintingLemmas.{next_piece_events, no_piece_events}
use Rattle.icu_locale_core_subtag_lists.proofs.printing.write_pieces.Goals as goal

pub loop-piece-preserved : goal.loop-piece-preserved
loop-piece-preserved g c =
    let next = next_piece_events c.args.pieces.now c.loop-piece.piece-index c.piece-item.result c.loop-piece-test.true c.piece-item.is in
    record {
      writing = writing_goes_on g.S.Sink.takes g.S.Sink.refused g.met.S.Sink.joins _ _ _ _ (bytes (hyphen ∷ []) ++ bytes c.piece-item.result) _
          (rw next at c.loop-piece.invariant.writing) c.in_ok-write_piece.ensures.ok c.in_ok-write_piece.ensures.refused;
    }

pub returns-in_err-write_piece-clause-begun : goal.returns-in_err-write_piece-clause-begun
returns-in_err-write_piece-clause-begun g c =
    let next = next_piece_events c.args.pieces.now c.loop-piece.piece-index c.piece-item.result c.loop-piece-test.true c.piece-item.is in
    on_err c.from_residual.result
    (writing_stops g.S.Sink.takes g.S.Sink.refused g.met.S.Sink.joins g.S.Sink.lacks_room g.met.S.Sink.lacks_more _ _ _ _ (bytes (hyphen ∷ []) ++ bytes c.piece-item.result) _
    (rw next at c.loop-piece.invariant.writing) c.in_err-write_piece.ensures.begun)

pub returns-clause-ok : goal.returns-clause-ok
returns-clause-ok g c =
    writing_ends g.S.Sink.takes g.S.Sink.refused _ _ _
    (rw (no_piece_events c.args.pieces.now c.loop-piece.piece-index c.loop-piece-test.false) at c.loop-piece.invariant.writing)
