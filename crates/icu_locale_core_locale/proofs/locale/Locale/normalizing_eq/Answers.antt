use Rattle.std.proofs.Common.{inl, inr}
use Rattle.icu_locale_core_grammar.specs.Pieces.{pieces}
use Rattle.icu_locale_core_locale.proofs.NormalizingLemmas.{same_is_meant, fault_means_none}
use Rattle.icu_locale_core_locale.proofs.locale.Locale.normalizing_eq.Goals as goal

pub returns-in-Ok-clause-value : goal.returns-in-Ok-clause-value
returns-in-Ok-clause-value c = same_is_meant (pieces c.args.other.now) c.in-Ok.locale c.args.self.now c.eq.result c.in-Ok.ensures.value c.eq.ensures

pub returns-in_default-clause-value : goal.returns-in_default-clause-value
returns-in_default-clause-value c =
    elim c.in-Err.ensures.fault [
      | inl memory ↦ absurd (c.in_default.not-Memory memory)
      | inr fault ↦ fault_means_none (pieces c.args.other.now) c.args.self.now c.in-Err.error fault
    ]
