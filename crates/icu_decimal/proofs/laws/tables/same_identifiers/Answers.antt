use Rattle.std.proofs.Common.{sym, ◌∙◌}
use Rattle.icu_decimal.proofs.SameLemmas.{identifiers_decide}
use Rattle.icu_decimal.proofs.laws.tables.same_identifiers.Goals as goal

pub returns : goal.returns
returns c =
    let decides = identifiers_decide c.args.one.now c.args.other.now in
    (λ e. decides.0 (sym c.eq.ensures ∙ e), λ e. c.eq.ensures ∙ decides.1 e)
