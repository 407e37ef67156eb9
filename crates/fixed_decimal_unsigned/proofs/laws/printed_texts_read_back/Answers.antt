use Rattle.fixed_decimal_unsigned.proofs.PrintedLemmas.{reads_printed}
use Rattle.fixed_decimal_unsigned.proofs.laws.printed_texts_read_back.Goals as goal

pub returns : goal.returns
returns c = reads_printed
