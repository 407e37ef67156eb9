use Rattle.locale_numbers_book.proofs.BookLemmas.{alone_stays, pairs_stay, triples_stay}
use Rattle.locale_numbers_book.proofs.laws.old_books_stay.Goals as goal

pub returns-clause-alone : goal.returns-clause-alone
returns-clause-alone c = alone_stays

pub returns-clause-pairs : goal.returns-clause-pairs
returns-clause-pairs c = pairs_stay

pub returns-clause-triples : goal.returns-clause-triples
returns-clause-triples c = triples_stay
