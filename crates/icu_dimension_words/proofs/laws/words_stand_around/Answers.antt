use Rattle.icu_dimension_words.proofs.TakenLemmas.{words_are_of_the_category}
use Rattle.icu_dimension_words.proofs.WordsTextLemmas.{words_stand_around}
use Rattle.icu_dimension_words.proofs.laws.words_stand_around.Goals as goal

pub returns : goal.returns
returns c = record { number = words_stand_around; category = words_are_of_the_category }
