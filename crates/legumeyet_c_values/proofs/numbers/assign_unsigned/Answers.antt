use Rattle.std.proofs.Common.{w16}
use Rattle.std.specs.Prelude.{pos}
use Rattle.std.proofs.lemmas.Int.{to_z-of_z}
use Rattle.fixed_decimal.specs.WholeNumbers.{IsSignedWhole}
use Rattle.legumeyet_c_values.proofs.NumbersLemmas.{moved_refused, moved_scales}
use Rattle.legumeyet_c_values.proofs.numbers.assign_unsigned.Goals as goal

pub returns-clause-value : goal.returns-clause-value
returns-clause-value c =
    let exponent = to_z-of_z w16 c.args.exponent c.ranges.exponent in
    let is : IsSignedWhole (pos c.args.mantissa) c.in-Ok.whole = record { sign = c.in-Ok.ensures.value.sign; size = c.in-Ok.ensures.value.size } in
    moved_scales (pos c.args.mantissa) c.args.exponent c.in-Ok.whole c.move_by.new.whole c.move_by.result is (simp exponent at c.move_by.ensures.value)

pub returns-clause-fault : goal.returns-clause-fault
returns-clause-fault c =
    let exponent = to_z-of_z w16 c.args.exponent c.ranges.exponent in
    let is : IsSignedWhole (pos c.args.mantissa) c.in-Ok.whole = record { sign = c.in-Ok.ensures.value.sign; size = c.in-Ok.ensures.value.size } in
    moved_refused (pos c.args.mantissa) c.args.exponent c.in-Ok.whole c.move_by.result is (simp exponent at c.move_by.ensures.fault)
