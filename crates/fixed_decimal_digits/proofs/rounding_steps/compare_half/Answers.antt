use Rattle.std.proofs.Common.{arith}
use Rattle.fixed_decimal_digits.proofs.RoundingStepLemmas.{half_by_part, half_less, half_greater, half_met, nothing_left}
use Rattle.fixed_decimal_digits.proofs.rounding_steps.compare_half.Goals as goal

pub returns-then-twice-step : goal.returns-then-twice-step
returns-then-twice-step c = λ part unit l h r. half_by_part c.args.below c.args.over c.args.step part unit c.if-twice-step.true h

pub returns-then-twice-step-2 : goal.returns-then-twice-step-2
returns-then-twice-step-2 c = λ part unit l h r. half_less c.args.over c.args.step part unit (omega arith) l

pub returns-then-twice-step-3 : goal.returns-then-twice-step-3
returns-then-twice-step-3 c = λ part unit l h r. half_greater c.args.over c.args.step part unit (omega arith) l

pub returns-then-has_rest : goal.returns-then-has_rest
returns-then-has_rest c = λ part unit l h r.
    let some = r.0 c.if-has_rest.true in
    omega (arith, half_met c.args.over c.args.step part unit (omega arith))

pub returns : goal.returns
returns c = λ part unit l h r.
    let none = nothing_left c.args.has_rest part r.1 c.if-has_rest.false in
    omega (arith, half_met c.args.over c.args.step part unit (omega arith))
