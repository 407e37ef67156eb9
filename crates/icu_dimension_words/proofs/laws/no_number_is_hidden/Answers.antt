use Rattle.icu_dimension_words.proofs.TakenLemmas.{no_number_is_hidden}
use Rattle.icu_dimension_words.proofs.laws.no_number_is_hidden.Goals as goal

pub returns : goal.returns
returns c = no_number_is_hidden
