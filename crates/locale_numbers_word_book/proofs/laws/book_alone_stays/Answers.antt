use Rattle.locale_numbers_word_book.proofs.WordBookLemmas.{book_alone}
use Rattle.locale_numbers_word_book.proofs.laws.book_alone_stays.Goals as goal

pub returns : goal.returns
returns c = book_alone
