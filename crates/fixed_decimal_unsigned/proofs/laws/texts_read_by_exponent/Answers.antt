use Rattle.fixed_decimal_unsigned.proofs.ReadNumberLemmas.{reads_by_exponent}
use Rattle.fixed_decimal_unsigned.proofs.laws.texts_read_by_exponent.Goals as goal

pub returns : goal.returns
returns c = reads_by_exponent
