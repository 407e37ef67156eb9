use Rattle.std.proofs.Common.{Bool, IfOk, sym, subst}
use Rattle.icu_locale_core_locale.specs.StageView.{singletons, block_view, Ends}
use Rattle.icu_locale_core_locale.proofs.StageLemmas.{last_small}
use Rattle.icu_locale_core_locale.proofs.parser.stage.ended_extension.Goals as goal

pub returns-then-filled-clause-ends : goal.returns-then-filled-clause-ends
returns-then-filled-clause-ends c =
    let stage = c.args.stage in
    subst (λ (filled : Bool). IfOk c.ended_body.result (Ends (block_view stage.id stage.seen stage.extensions.blocks stage.body filled))) (sym c.if-filled.true) (c.ended_body.ensures.ends (singletons stage.seen))

pub returns-then-filled-clause-room : goal.returns-then-filled-clause-room
returns-then-filled-clause-room c = λ none.
    let stage = c.args.stage in
    c.ended_body.ensures.room (last_small stage.id stage.seen stage.extensions.blocks stage.body stage.filled c.if-filled.true none)
