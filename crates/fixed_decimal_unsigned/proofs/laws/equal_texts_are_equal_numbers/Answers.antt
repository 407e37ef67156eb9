use Rattle.fixed_decimal_unsigned.proofs.PrintedLemmas.{texts_tell}
use Rattle.fixed_decimal_unsigned.proofs.laws.equal_texts_are_equal_numbers.Goals as goal

pub returns : goal.returns
returns c = texts_tell
