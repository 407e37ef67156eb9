use Rattle.fixed_decimal.proofs.CompactReadOnceLemmas.{compact_printed, compact_equal}
use Rattle.fixed_decimal.proofs.laws.printed_compacts_read_back.Goals as goal

pub returns : goal.returns
returns c = record { back = compact_printed; equal = compact_equal }
