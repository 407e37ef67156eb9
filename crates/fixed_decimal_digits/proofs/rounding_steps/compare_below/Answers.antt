use Rattle.std.proofs.Common.{◌≡◌, ◌-◌, ◌%◌, ◌^◌, sym, ◌∙◌, arith}
use Rattle.fixed_decimal_digits.specs.DigitList.{count_of}
use Rattle.fixed_decimal_digits.proofs.RoundingStepLemmas.{below_middle, nothing_left}
use Rattle.fixed_decimal_digits.proofs.rounding_steps.compare_below.Goals as goal

pub returns-then-has_below : goal.returns-then-has_below
returns-then-has_below c =
    let count = count_of c.args.digits.now.items c.args.top in
    let five : c.digit_at_place-first.result ≡ 5 = omega arith in
    let some = c.has_below.ensures.0 c.if-has_below.true in
    omega (arith, below_middle count c.args.place (omega arith) (sym c.digit_at_place-first.ensures.value ∙ five))

pub returns : goal.returns
returns c =
    let count = count_of c.args.digits.now.items c.args.top in
    let five : c.digit_at_place-first.result ≡ 5 = omega arith in
    let none = nothing_left c.has_below.result (count % 10 ^ (c.args.place - 1)) c.has_below.ensures.1 c.if-has_below.false in
    omega (arith, below_middle count c.args.place (omega arith) (sym c.digit_at_place-first.ensures.value ∙ five))
