use Rattle.std.proofs.Common.{w16, w64}
use Rattle.std.proofs.lemmas.Int.{to_z-of_z}
use Rattle.legumeyet_c_values.proofs.NumbersLemmas.{moved_refused, moved_scales}
use Rattle.legumeyet_c_values.proofs.numbers.assign_scaled.Goals as goal

pub returns-clause-value : goal.returns-clause-value
returns-clause-value c =
    let mantissa = to_z-of_z w64 c.args.mantissa c.ranges.mantissa in
    let exponent = to_z-of_z w16 c.args.exponent c.ranges.exponent in
    moved_scales c.args.mantissa c.args.exponent c.in-Ok.whole c.move_by.new.whole c.move_by.result (simp mantissa at c.in-Ok.ensures.value) (simp exponent at c.move_by.ensures.value)

pub returns-clause-fault : goal.returns-clause-fault
returns-clause-fault c =
    let mantissa = to_z-of_z w64 c.args.mantissa c.ranges.mantissa in
    let exponent = to_z-of_z w16 c.args.exponent c.ranges.exponent in
    moved_refused c.args.mantissa c.args.exponent c.in-Ok.whole c.move_by.result (simp mantissa at c.in-Ok.ensures.value) (simp exponent at c.move_by.ensures.fault)
