use Rattle.std.proofs.Common.{sym, ap, refl, ◌∙◌}
use Rattle.icu_decimal.specs.Identifiers.{symbols_identifiers, digits_identifiers}
use Rattle.icu_decimal.proofs.SameLemmas.{preferences_decide}
use Rattle.icu_decimal.proofs.laws.tables.same_preferences.Goals as goal

pub returns : goal.returns
returns c =
    let decides = preferences_decide c.args.one.now c.args.other.now in
    record {
      same = (λ e. decides.0 (sym c.eq.ensures ∙ e), λ e. c.eq.ensures ∙ decides.1 e);
      symbols = λ e chain. ap (symbols_identifiers chain) (decides.0 (sym c.eq.ensures ∙ e));
      digits = λ e named. ap (λ p. digits_identifiers p.numbering_system named) (decides.0 (sym c.eq.ensures ∙ e));
      hashed = λ e. rw (decides.0 (sym c.eq.ensures ∙ e)) refl;
    }
