use Rattle.std.proofs.Common.{sym, ◌∙◌}
use Rattle.icu_locale_core_grammar.proofs.SameLemmas.{same_data_locales}
use Rattle.icu_locale_core.proofs.laws.preferences.same_data_locales.Goals as goal

pub returns : goal.returns
returns c =
    let decides = same_data_locales c.args.one.now c.args.other.now in
    (λ e. decides.0 (sym c.eq.ensures ∙ e), λ e. c.eq.ensures ∙ decides.1 e)
