use Rattle.icu_locale_core_grammar.specs.WellFormed.{IsNormalOther}
use Rattle.icu_locale_core_keywords_fields.proofs.WellFormedLemmas.{IsTesting}
use Rattle.icu_locale_core_locale.proofs.well_formed.each_is_normal.Given as goal

abbrev pub invariant-loop-other : goal.invariant-loop-other
invariant-loop-other l = IsTesting IsNormalOther l.others l.other-index
