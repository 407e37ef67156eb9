use Rattle.icu_dimension_words.proofs.AgreementLemmas.{words_have_one_decimal}
use Rattle.icu_dimension_words.proofs.laws.words_have_one_decimal.Goals as goal

pub returns : goal.returns
returns c = words_have_one_decimal
