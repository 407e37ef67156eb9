use Rattle.std.proofs.Common.{rules, ◌≡◌, ◌+◌, ◌-◌, ◌*◌, ap, ◌∙◌, arith}
use Rattle.fixed_decimal.specs.Number.{digit}
use Rattle.icu_decimal_plurals.proofs.OperandsLemmas.{next_digit, part_below}
use Rattle.icu_decimal_plurals.proofs.operands.part_of.Goals as goal

pub overflow_mul-part : goal.overflow_mul-part
overflow_mul-part c =
    let n = c.args.number.now.count in let left = c.loop-left.left in
    let next = next_digit n c.args.place c.args.places left c.loop-left.part c.loop-left-test.true c.loop-left.invariant.0 c.loop-left.invariant.1 in
    let below = part_below n (c.args.place + (left - 1)) (c.args.places - (left - 1)) (omega arith) in
    grind (arith)

pub overflow_add-part : goal.overflow_add-part
overflow_add-part c =
    let n = c.args.number.now.count in let left = c.loop-left.left in
    let next = next_digit n c.args.place c.args.places left c.loop-left.part c.loop-left-test.true c.loop-left.invariant.0 c.loop-left.invariant.1 in
    let below = part_below n (c.args.place + (left - 1)) (c.args.places - (left - 1)) (omega arith) in
    let same : c.from-in-loop-left.result ≡ c.digit_over.result = search rules in
    let is : c.from-in-loop-left.result ≡ digit n (c.args.place + (left - 1)) = same ∙ c.digit_over.ensures.value in
    grind (arith)

pub loop-left-preserved : goal.loop-left-preserved
loop-left-preserved c =
    let n = c.args.number.now.count in let left = c.loop-left.left in
    let next = next_digit n c.args.place c.args.places left c.loop-left.part c.loop-left-test.true c.loop-left.invariant.0 c.loop-left.invariant.1 in
    let same : c.from-in-loop-left.result ≡ c.digit_over.result = search rules in
    let is : c.from-in-loop-left.result ≡ digit n (c.args.place + (left - 1)) = same ∙ c.digit_over.ensures.value in
    (omega arith, ap (λ d. c.loop-left.part * 10 + d) is ∙ next)
