use Rattle.locale_numbers.proofs.NumbersAlone.{numbers_alone}
use Rattle.locale_numbers.proofs.laws.numbers_need_no_units.Goals as goal

pub returns : goal.returns
returns c = numbers_alone
