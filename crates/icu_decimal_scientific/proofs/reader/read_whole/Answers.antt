use Rattle.icu_decimal_plain.specs.BorrowedTables.{borrowed_tables}
use Rattle.icu_decimal_scientific.proofs.ReaderLemmas.{fraction_only}
use Rattle.icu_decimal_scientific.proofs.reader.read_whole.Goals as goal

pub returns-in-Err-try_from-clause-not_written : goal.returns-in-Err-try_from-clause-not_written
returns-in-Err-try_from-clause-not_written c =
    λ refused. fraction_only (borrowed_tables c.args.exponents.now) c.args.text.now c.in-Ok.number c.are_tables.ensures c.requires c.in-Ok.ensures.value c.in-Err-try_from.ensures
