use Rattle.fixed_decimal.proofs.SignedReadOnceLemmas.{signed_reads_once, integer_not_beyond}
use Rattle.fixed_decimal.proofs.laws.integer_texts_read_once.Goals as goal

pub returns : goal.returns
returns c = λ text. record { value = λ a b h k. signed_reads_once text a b h.reads k.reads; limit = integer_not_beyond text }
