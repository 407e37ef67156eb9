use Rattle.locale_numbers_book.proofs.TextTables.{tables_texts}
use Rattle.locale_numbers_book.proofs.laws.tables_are_texts.Goals as goal

pub returns : goal.returns
returns c = tables_texts
