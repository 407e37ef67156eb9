use Rattle.icu_locale_core_grammar.specs.WellFormed.{IsNormalEntry}
use Rattle.icu_locale_core_keywords_fields.proofs.WellFormedLemmas.{IsTesting}
use Rattle.icu_locale_core_keywords_fields.proofs.entries.EntriesOf.is_well_formed.Given as goal

abbrev pub invariant-loop-key : goal.invariant-loop-key
invariant-loop-key g l = IsTesting (IsNormalEntry g.K.SubtagRule.accepts) l.key-items l.key-index
