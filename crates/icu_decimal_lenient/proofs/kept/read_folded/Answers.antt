use Rattle.std.proofs.Common.{◌∙◌, ap, sym}
use Rattle.std.specs.Option.{option_copied}
use Rattle.icu_decimal_plain.specs.BorrowedTables.{borrowed_tables}
use Rattle.icu_decimal_lenient.proofs.LenientStepLemmas.{folds_readable, no_folds_kept}
use Rattle.icu_decimal_lenient.proofs.kept.read_folded.Goals as goal

pub returns-in-Some-clause-memory : goal.returns-in-Some-clause-memory
returns-in-Some-clause-memory c = λ refused. folds_readable (borrowed_tables c.args.tables.now) c.in-Some.symbols.now (sym (ap option_copied c.in-Some.is) ∙ c.requires)

pub returns-in-None-clause-reading : goal.returns-in-None-clause-reading
returns-in-None-clause-reading c = no_folds_kept (borrowed_tables c.args.tables.now) c.args.text.now (sym (ap option_copied c.in-None.is) ∙ c.requires)
