use Rattle.std.proofs.Common.{rules, IsTrue}
use Rattle.std.specs.Float.{float_is_finite}
use Rattle.legumeyet_c_values.specs.Numbers.{IsNumberFault}
use Rattle.legumeyet_c_values.proofs.NumbersLemmas.{digits_fail}
use Rattle.legumeyet_c_values.proofs.numbers.assign_double.Goals as goal

pub returns-in-Err-clause-fault : goal.returns-in-Err-clause-fault
returns-in-Err-clause-fault c =
    let finite : IsTrue (float_is_finite c.args.double) = search rules in
    let fault : IsNumberFault c.digits_of.result.now c.in-Err.error = search rules in
    digits_fail c.args.double c.digits_of.result.now c.in-Err.error finite c.digits_of.ensures.spells c.digits_of.ensures.reads fault
