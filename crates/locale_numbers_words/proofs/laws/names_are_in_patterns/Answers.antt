use Rattle.locale_numbers_words.proofs.FoundLemmas.{names_in_patterns}
use Rattle.locale_numbers_words.proofs.laws.names_are_in_patterns.Goals as goal

pub returns : goal.returns
returns c = names_in_patterns
