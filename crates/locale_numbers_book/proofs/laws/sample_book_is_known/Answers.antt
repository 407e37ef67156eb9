use Rattle.locale_numbers_book.proofs.SampleLemmas.{sample_is_known}
use Rattle.locale_numbers_book.proofs.laws.sample_book_is_known.Goals as goal

pub returns : goal.returns
returns c = sample_is_known
