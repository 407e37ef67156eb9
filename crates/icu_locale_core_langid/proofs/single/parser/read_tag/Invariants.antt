use Rattle.icu_locale_core_langid.specs.SingleStageView.{stage_view}
use Rattle.icu_locale_core_langid.proofs.SingleStageLemmas.{Reached}
use Rattle.icu_locale_core_langid.proofs.single.parser.read_tag.Given as goal

abbrev pub invariant-loop-piece : goal.invariant-loop-piece
invariant-loop-piece l = Reached l.fn.from (stage_view l.stage) l.piece-iterator
