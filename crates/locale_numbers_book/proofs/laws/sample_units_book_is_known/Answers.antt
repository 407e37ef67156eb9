use Rattle.locale_numbers_book.proofs.SampleUnitsLemmas.{sample_units_is_known}
use Rattle.locale_numbers_book.proofs.laws.sample_units_book_is_known.Goals as goal

pub returns : goal.returns
returns c = sample_units_is_known
