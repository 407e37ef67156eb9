use Rattle.icu_decimal_plain.specs.BorrowedTables.{borrowed_tables}
use Rattle.icu_dimension_affixes.specs.HeldReaders.{pair_of}
use Rattle.icu_dimension_affixes.proofs.ReaderLemmas.{between_missing}
use Rattle.icu_dimension_affixes.proofs.reader.read_signed.Goals as goal

pub returns-in-Err-clause-not_written : goal.returns-in-Err-clause-not_written
returns-in-Err-clause-not_written c =
    λ refused. between_missing (borrowed_tables c.args.decimals.now) (pair_of c.args.affixes.now) c.args.text.now c.in-Some.inner.now c.in-Some.ensures.some (c.in-Err.ensures.not_written refused)
