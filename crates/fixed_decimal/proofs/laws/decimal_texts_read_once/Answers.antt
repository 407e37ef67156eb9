use Rattle.fixed_decimal.proofs.SignedReadOnceLemmas.{signed_reads_once, signed_not_beyond}
use Rattle.fixed_decimal.proofs.laws.decimal_texts_read_once.Goals as goal

pub returns : goal.returns
returns c = λ text. record { value = signed_reads_once text; limit = signed_not_beyond text }
