use Rattle.locale_numbers_word_book.proofs.WordBookLemmas.{refused_none}
use Rattle.locale_numbers_word_book.proofs.laws.refused_are_none.Goals as goal

pub returns : goal.returns
returns c = refused_none
