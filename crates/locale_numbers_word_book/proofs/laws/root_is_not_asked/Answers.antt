use Rattle.locale_numbers_word_book.proofs.WordBookLemmas.{root_not_asked}
use Rattle.locale_numbers_word_book.proofs.laws.root_is_not_asked.Goals as goal

pub returns : goal.returns
returns c = root_not_asked
