use Rattle.icu_decimal_plain.specs.BorrowedTables.{borrowed_tables}
use Rattle.icu_decimal_scientific.proofs.ReaderLemmas.{signed_only, unsigned_missing}
use Rattle.icu_decimal_scientific.proofs.reader.read_unsigned.Goals as goal

pub returns-in-None-clause-not_written : goal.returns-in-None-clause-not_written
returns-in-None-clause-not_written c =
    λ refused. signed_only (borrowed_tables c.args.decimals.now) c.args.text.now c.in-Ok.number c.are_tables.ensures c.requires c.in-Ok.ensures.value c.in-None.ensures.none

pub returns-in-Err-clause-not_written : goal.returns-in-Err-clause-not_written
returns-in-Err-clause-not_written c =
    λ refused. unsigned_missing (borrowed_tables c.args.decimals.now) c.args.text.now (c.in-Err.ensures.not_written refused)
