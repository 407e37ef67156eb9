use Rattle.icu_decimal_plain.specs.BorrowedTables.{borrowed_tables}
use Rattle.icu_decimal_lenient.proofs.LenientStepLemmas.{kept_readable}
use Rattle.icu_decimal_lenient.proofs.lenient.LenientTables.read_fold.Goals as goal

pub read_whole-requires : goal.read_whole-requires
read_whole-requires c = kept_readable (borrowed_tables c.self.inside.tables) c.self.inside.folded c.self.invariant
