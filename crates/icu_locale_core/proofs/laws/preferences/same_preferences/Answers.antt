use Rattle.std.proofs.Common.{sym, ◌∙◌}
use Rattle.icu_locale_core_grammar.proofs.SameLemmas.{same_locale_preferences}
use Rattle.icu_locale_core.proofs.laws.preferences.same_preferences.Goals as goal

pub returns : goal.returns
returns c =
    let decides = same_locale_preferences c.args.first.now c.args.second.now in
    (λ e. decides.0 (sym c.eq.ensures ∙ e), λ e. c.eq.ensures ∙ decides.1 e)
