use Rattle.locale_numbers_book.proofs.BookLemmas.{one_book}
use Rattle.locale_numbers_book.proofs.laws.is_one_book.Goals as goal

pub returns : goal.returns
returns c = one_book
