use Rattle.tinystr.proofs.DecimalLemmas.{one_decimal_law, ten_digits_law}
use Rattle.tinystr.proofs.laws.one_decimal.Goals as goal

pub returns : goal.returns
returns c = record { one = one_decimal_law; ten = ten_digits_law }
