use Rattle.fixed_decimal_unsigned.proofs.ReadOnceLemmas.{reads_once, reads_not_beyond}
use Rattle.fixed_decimal_unsigned.proofs.laws.texts_read_once.Goals as goal

pub returns : goal.returns
returns c = λ text. record { number = reads_once text; limit = reads_not_beyond text }
