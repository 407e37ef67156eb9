use Rattle.locale_numbers_tables.proofs.TagLemmas.{tag_meant, tag_read}
use Rattle.locale_numbers_book.proofs.laws.tags_are_read.Goals as goal

pub returns : goal.returns
returns c = λ list tag. (tag_read list tag, tag_meant list tag)
