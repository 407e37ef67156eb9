use Rattle.std.proofs.Common.{drop}
use Rattle.icu_locale_core_grammar.specs.WellFormed.{IsNormalValue}
use Rattle.icu_locale_core_keywords_fields.specs.Values.{IsWithoutTrue}
use Rattle.icu_locale_core_keywords_fields.proofs.WellFormedLemmas.{IsTesting}
use Rattle.icu_locale_core_keywords_fields.proofs.value.ValueOf.is_well_formed.Given as goal

abbrev pub invariant-loop-subtag : goal.invariant-loop-subtag
invariant-loop-subtag g l = record {
  testing : IsTesting IsNormalValue l.subtag-items l.subtag-index;
  shown : IsWithoutTrue (drop l.subtag-index l.subtag-items);
}
