use Rattle.icu_dimension_words.proofs.WordsTextLemmas.{words_are_text}
use Rattle.icu_dimension_words.proofs.laws.text_law.Goals as goal

pub returns : goal.returns
returns c = words_are_text
