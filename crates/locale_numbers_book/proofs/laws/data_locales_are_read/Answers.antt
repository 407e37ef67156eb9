use Rattle.locale_numbers_tables.proofs.TagLemmas.{data_meant, data_read}
use Rattle.locale_numbers_book.proofs.laws.data_locales_are_read.Goals as goal

pub returns : goal.returns
returns c = λ list locale. (data_read list locale, data_meant list locale)
