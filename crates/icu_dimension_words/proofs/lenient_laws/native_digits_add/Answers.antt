use Rattle.icu_dimension_words.proofs.NativeWordLemmas.{native_same, others_stay}
use Rattle.icu_dimension_words.proofs.lenient_laws.native_digits_add.Goals as goal

pub returns-clause-same : goal.returns-clause-same
returns-clause-same c = native_same

pub returns-clause-others : goal.returns-clause-others
returns-clause-others c = others_stay
