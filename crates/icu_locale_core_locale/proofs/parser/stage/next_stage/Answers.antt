use Rattle.icu_locale_core_locale.proofs.StageLemmas.{few_seen}
use Rattle.icu_locale_core_locale.proofs.parser.stage.next_stage.Goals as goal

pub returns-in-InExtension-clause-room : goal.returns-in-InExtension-clause-room
returns-in-InExtension-clause-room c =
    let stage = c.in-InExtension.stage in
    rw c.in-InExtension.is (λ none few. c.after_extension.ensures.room none (few_seen stage.id stage.seen stage.extensions.blocks stage.body stage.filled few))
