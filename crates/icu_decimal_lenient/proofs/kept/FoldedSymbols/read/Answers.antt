use Rattle.icu_decimal_plain.specs.BorrowedTables.{borrowed_tables}
use Rattle.icu_decimal_lenient.proofs.TypedStepLemmas.{answered_no_number, answered_no_typing, answered_number}
use Rattle.icu_decimal_lenient.proofs.kept.FoldedSymbols.read.Goals as goal

pub returns-clause-unreadable : goal.returns-clause-unreadable
returns-clause-unreadable c = λ lacks. answered_no_typing (borrowed_tables c.args.tables.now) c.args.text.now c.read_typed.result c.read_typed.ensures.reading lacks

pub returns-clause-value : goal.returns-clause-value
returns-clause-value c = answered_number (borrowed_tables c.args.tables.now) c.args.text.now c.read_typed.result c.are_tables.ensures c.read_typed.ensures.reading

pub returns-clause-not_written : goal.returns-clause-not_written
returns-clause-not_written c = λ missing. answered_no_number (borrowed_tables c.args.tables.now) c.args.text.now c.read_typed.result c.are_tables.ensures c.utf8.text c.read_typed.ensures.reading missing
