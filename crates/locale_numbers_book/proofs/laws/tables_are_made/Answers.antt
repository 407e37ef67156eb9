use Rattle.locale_numbers_tables.proofs.CompactLemmas.{table_meant, table_read}
use Rattle.locale_numbers_book.proofs.laws.tables_are_made.Goals as goal

pub returns : goal.returns
returns c = λ zero given table. (table_read zero given table, table_meant zero given table)
