use Rattle.locale_numbers_word_book.proofs.WordBookLemmas.{nothing_found}
use Rattle.locale_numbers_word_book.proofs.laws.nothing_is_found.Goals as goal

pub returns : goal.returns
returns c = nothing_found
