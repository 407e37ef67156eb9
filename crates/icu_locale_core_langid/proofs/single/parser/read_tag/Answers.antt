use Rattle.std.proofs.lemmas.Result.{err_from_is_err_and, MatchResult-weaker}
use Rattle.icu_locale_core_langid.specs.SingleModes.{single}
use Rattle.icu_locale_core_langid.specs.SingleStageView.{stage_view}
use Rattle.icu_locale_core_langid.proofs.SingleStageLemmas.{reached_more, stuck_at_piece, ends_there, stuck_at_end}
use Rattle.icu_locale_core_langid.proofs.single.parser.read_tag.Goals as goal

pub returns-in_err-stage : goal.returns-in_err-stage
returns-in_err-stage c =
    let p = err_from_is_err_and c.from_residual.result c.from_residual.ensures.1 in
    rw (p.1, p.2)
    (stuck_at_piece c.args.from c.loop-piece.piece-iterator c.next.new.self (stage_view c.loop-piece.stage) c.in-Some.piece.now c.loop-piece.invariant c.in-Some.ensures.steps _ c.in_err-stage.ensures)

pub loop-piece-preserved : goal.loop-piece-preserved
loop-piece-preserved c =
    reached_more c.args.from c.loop-piece.piece-iterator c.next.new.self (stage_view c.loop-piece.stage) c.in-Some.piece.now c.loop-piece.invariant c.in-Some.ensures.steps (stage_view c.in_ok-stage.stage)
    c.in_ok-stage.ensures

pub returns : goal.returns
returns c =
    let past = c.in-None.ensures.steps.0 in
    MatchResult-weaker c.parts_at_end.result c.parts_at_end.ensures
    (λ parts. ends_there c.args.from c.loop-piece.piece-iterator (stage_view c.loop-piece.stage) c.loop-piece.invariant past (single parts))
    (λ e. stuck_at_end c.args.from c.loop-piece.piece-iterator (stage_view c.loop-piece.stage) c.loop-piece.invariant past e)
