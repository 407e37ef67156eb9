use Rattle.std.proofs.Common.{◌+◌, ◌<◌, ◌≤◌, ◌∙◌, ap, subst, sym, w32}
use Rattle.std.proofs.lemmas.Bool.{eqb-true}
use Rattle.std.proofs.lemmas.Int.{to_z-of_z}
use Rattle.fixed_decimal.specs.Shifts.{fall, rise}
use Rattle.icu_decimal_scientific.specs.Scientific.{step}
use Rattle.icu_decimal_scientific.proofs.FormOfLemmas.{positive}
use Rattle.icu_decimal_scientific.proofs.NotationLemmas.{multiple_by, normal_some, too_large, too_small}
use Rattle.icu_decimal_scientific.proofs.notation_reader.is_normal.Goals as goal

pub returns-then-first-lt32768-clause-other : goal.returns-then-first-lt32768-clause-other
returns-then-first-lt32768-clause-other c = λ _.
    too_small c.args.notation c.args.significand.now.count c.args.exponent (positive c.args.significand.now.count (sym c.is_zero.ensures ∙ c.if-is_zero.false))
    c.first_place-first.result c.first_place-first.ensures.holds c.if-first-lt32768.true

pub returns-then-step-first-clause-other : goal.returns-then-step-first-clause-other
returns-then-step-first-clause-other c = λ _.
    let some : 0 < c.args.significand.now.count = positive c.args.significand.now.count (sym c.is_zero.ensures ∙ c.if-is_zero.false) in
    too_large c.args.notation c.args.significand.now.count c.args.exponent some c.first_place-first.result (c.first_place-first.ensures.reaches some)
    (subst (λ k. 32768 + k ≤ c.first_place-first.result) c.step_of-step.ensures c.if-step-first.true)

pub returns-clause-normal : goal.returns-clause-normal
returns-clause-normal c = λ test.
    let some : 0 < c.args.significand.now.count = positive c.args.significand.now.count (sym c.is_zero.ensures ∙ c.if-is_zero.false) in
    normal_some c.args.notation c.args.significand.now.count c.args.exponent c.first_place-first.result (c.first_place-first.ensures.reaches some) c.first_place-first.ensures.holds
    c.if-first-lt32768.false (subst (λ k. c.first_place-first.result < 32768 + k) c.step_of-step.ensures c.if-step-first.false)
    (multiple_by c.rise_of.result c.fall_of.result c.step_of-step.result (rise c.args.exponent) (fall c.args.exponent) (step c.args.notation)
    (c.rise_of.ensures ∙ ap rise (to_z-of_z w32 c.args.exponent c.ranges.exponent)) (c.fall_of.ensures ∙ ap fall (to_z-of_z w32 c.args.exponent c.ranges.exponent)) c.step_of-step.ensures
    (eqb-true _ 0 test))
