use Rattle.icu_decimal_plain.specs.BorrowedTables.{borrowed_tables}
use Rattle.icu_decimal_lenient.proofs.LenientStepLemmas.{kept_readable}
use Rattle.icu_decimal_lenient.proofs.kept.read_by.Goals as goal

pub read_whole-requires : goal.read_whole-requires
read_whole-requires c = kept_readable (borrowed_tables c.args.tables.now) c.args.symbols.now c.requires
