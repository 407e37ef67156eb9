use Rattle.icu_locale_core_grammar.proofs.CaseSteps.{case_ignored}
use Rattle.icu_locale_core_grammar.proofs.laws.case_is_ignored.Goals as goal

pub returns : goal.returns
returns c = case_ignored
