use Rattle.icu_decimal_plain.specs.BorrowedTables.{borrowed_tables}
use Rattle.icu_decimal_reading.proofs.LawLemmas.{answered_not_written, plain_found}
use Rattle.icu_decimal_reading.proofs.reading.read_readable.Goals as goal

pub returns-in-Some-clause-value : goal.returns-in-Some-clause-value
returns-in-Some-clause-value c = plain_found (borrowed_tables c.args.tables.now) c.args.text.now c.in-Some.found c.are_tables.ensures c.in-Some.ensures

pub returns-in-None-clause-not_written : goal.returns-in-None-clause-not_written
returns-in-None-clause-not_written c = λ missing.
    answered_not_written (borrowed_tables c.args.tables.now) c.args.text.now c.read_as_defined.result c.are_tables.ensures c.utf8.text c.read_as_defined.ensures.reading missing
