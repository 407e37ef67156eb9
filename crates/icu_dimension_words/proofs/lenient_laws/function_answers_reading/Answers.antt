use Rattle.icu_dimension_words.proofs.WordReadingLemmas.{one_exact}
use Rattle.icu_dimension_words.proofs.lenient_laws.function_answers_reading.Goals as goal

pub returns : goal.returns
returns c = one_exact
