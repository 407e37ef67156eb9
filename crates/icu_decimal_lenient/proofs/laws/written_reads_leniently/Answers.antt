use Rattle.icu_decimal_lenient.proofs.LenientLemmas.{written_reads_leniently}
use Rattle.icu_decimal_lenient.proofs.laws.written_reads_leniently.Goals as goal

pub returns : goal.returns
returns c = written_reads_leniently
