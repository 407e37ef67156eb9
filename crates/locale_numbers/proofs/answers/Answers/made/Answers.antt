use Rattle.std.proofs.Common.{[], ◌∙◌}
use Rattle.locale_numbers.proofs.KeptAnswersLemmas.{counts}
use Rattle.locale_numbers.proofs.answers.Answers.made.Goals as goal

pub returns : goal.returns
returns g c =
    let old = c.self.inside.answerer.kept in
    c.made.ensures.value
    ∙ counts (g.T.Tables.book old.maker.tables.now) (g.T.Tables.book c.self.inside.tables.now) c.self.invariant.1 old.formatters c.args.self.now c.self.view_is []
