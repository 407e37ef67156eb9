use Rattle.locale_numbers_book.proofs.BookChains.{chains_end}
use Rattle.locale_numbers_book.proofs.laws.chains_end.Goals as goal

pub returns : goal.returns
returns c = chains_end
