use Rattle.fixed_decimal.proofs.CompactReadOnceLemmas.{compact_reads_once, compact_not_beyond}
use Rattle.fixed_decimal.proofs.laws.compact_texts_read_once.Goals as goal

pub returns : goal.returns
returns c = λ text. record { value = compact_reads_once text; limit = compact_not_beyond text }
