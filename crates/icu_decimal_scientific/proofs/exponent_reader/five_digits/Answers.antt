use Rattle.std.proofs.Common.{◌≡◌, ◌+◌, ◌-◌, ◌/◌, ◌^◌, ◌∙◌, ap, arith, sym}
use Rattle.icu_decimal_scientific.proofs.ShownExponentLemmas.{digit_more, few_above, none_above}
use Rattle.icu_decimal_scientific.proofs.exponent_reader.five_digits.Goals as goal

pub loop-left-init : goal.loop-left-init
loop-left-init c = record { few = omega arith; value = sym (none_above c.args.number.now.count 32773 c.requires (omega arith)) }

pub overflow_mul-value : goal.overflow_mul-value
overflow_mul-value c =
    let n = c.args.number.now.count in let left = c.loop-left.left in
    let more = digit_more n (32768 + (left - 1)) (32768 + left) (let some = c.loop-left-test.true in omega arith) in
    let below = few_above n (32768 + (left - 1)) c.requires (omega arith) in
    let is = c.loop-left.invariant.value in
    omega (arith, more, below, is)

pub overflow_add-value : goal.overflow_add-value
overflow_add-value c =
    let n = c.args.number.now.count in let left = c.loop-left.left in
    let more = digit_more n (32768 + (left - 1)) (32768 + left) (let some = c.loop-left-test.true in omega arith) in
    let below = few_above n (32768 + (left - 1)) c.requires (omega arith) in
    let is = c.loop-left.invariant.value in
    let ten = c.digit_before.ensures.ten in
    omega (arith, more, below, is, ten)

pub loop-left-preserved : goal.loop-left-preserved
loop-left-preserved c =
    let n = c.args.number.now.count in let left = c.loop-left.left in
    let more = digit_more n (32768 + (left - 1)) (32768 + left) (let some = c.loop-left-test.true in omega arith) in
    let is = c.loop-left.invariant.value in
    let digit_is = c.digit_before.ensures.value in
    let few = c.loop-left.invariant.few in
    record { few = omega (arith, few); value = omega (arith, more, is, digit_is) }

pub returns : goal.returns
returns c =
    let none : c.loop-left.left ≡ 0 = let under = c.loop-left-test.false in omega (arith, under) in
    c.loop-left.invariant.value ∙ ap (λ k. c.args.number.now.count / 10 ^ (32768 + k)) none
