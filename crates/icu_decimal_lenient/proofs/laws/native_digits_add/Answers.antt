use Rattle.icu_decimal_lenient.proofs.TypedLemmas.{both_are_typed_so, lenient_is_typed_so, others_stay}
use Rattle.icu_decimal_lenient.proofs.laws.native_digits_add.Goals as goal

pub returns-clause-same : goal.returns-clause-same
returns-clause-same c = lenient_is_typed_so

pub returns-clause-both : goal.returns-clause-both
returns-clause-both c = both_are_typed_so

pub returns-clause-others : goal.returns-clause-others
returns-clause-others c = others_stay
