use Rattle.std.proofs.Common.{◌&&◌, ap, ◌∙◌}
use Rattle.icu_locale_core_grammar.specs.Subtags.{is_singleton}
use Rattle.icu_locale_core_extensions.specs.Allocation.{body_keeps}
use Rattle.icu_locale_core_locale.proofs.StageLemmas.{body_small, end_small}
use Rattle.icu_locale_core_locale.proofs.parser.stage.after_extension.Goals as goal

pub returns-in-Err-clause-room : goal.returns-in-Err-clause-room
returns-in-Err-clause-room c = λ none few.
    let stage = c.args.stage in
    let failed = c.in-Err.ensures.room (body_small stage.id stage.seen stage.extensions.blocks stage.body stage.filled c.args.piece.now none) in
    cc

pub returns-then-filled-clause-room : goal.returns-then-filled-clause-room
returns-then-filled-clause-room c = λ none few.
    let stage = c.args.stage in
    let told = rw c.in-Refused.is at c.in-Ok.ensures.step in
    c.after_ended.ensures.room (ap (λ b. is_singleton c.args.piece.now && body_keeps b) told.1 ∙ end_small stage.id stage.seen stage.extensions.blocks stage.body stage.filled c.args.piece.now c.if-filled.true none) few
