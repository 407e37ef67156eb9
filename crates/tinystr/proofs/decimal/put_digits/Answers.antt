use Rattle.std.proofs.Common.{◌≡◌, ◌+◌, ◌-◌, ◌/◌, ◌%◌, ◌^◌, ◌<◌, ◌++◌, length, drop, set, ap, arith, ◌∙◌}
use Rattle.std.specs.Fmt.{decimal}
use Rattle.std.proofs.lemmas.Fmt.{decimal_nonempty, length-decimal-le}
use Rattle.std.proofs.lemmas.List.{append-nil, drop_all, length-set}
use Rattle.tinystr.proofs.DecimalLemmas.{IsDecimalText-decimal, longer, digit_before, digit_first}
use Rattle.tinystr.proofs.decimal.put_digits.Goals as goal

pub loop-rest-init : goal.loop-rest-init
loop-rest-init c = record {
  small = c.ranges.number.fits;
  within = omega arith;
  long = c.told-digits;
  room = length-decimal-le 10 c.args.number (omega arith) (omega arith) (omega arith);
  text = ap (λ l. decimal c.args.number ++ l) (drop_all 10 c.args.digits.now (omega arith)) ∙ append-nil (decimal c.args.number);
}

pub overflow_sub-start : goal.overflow_sub-start
overflow_sub-start c =
    let i = c.loop-rest.invariant in
    let small : c.loop-rest.rest < 2 ^ 64 = omega (arith, i.small) in
    let more = longer c.loop-rest.rest c.loop-rest-test.true small in
    let some = decimal_nonempty (c.loop-rest.rest / 10) (omega (arith, i.small)) in
    omega (arith, i.room, more, some)

pub loop-rest-preserved : goal.loop-rest-preserved
loop-rest-preserved c =
    let i = c.loop-rest.invariant in
    let rest = c.loop-rest.rest in
    let start = c.loop-rest.start in
    let small : rest < 2 ^ 64 = omega (arith, i.small) in
    let more = longer rest c.loop-rest-test.true small in
    let some = decimal_nonempty (rest / 10) (omega (arith, i.small)) in
    let here : start < length c.loop-rest.digits = omega (arith, i.long, i.within) in
    let back : start - 1 + 1 ≡ start = omega (arith, i.room, more, some) in
    record {
      small = omega (arith, i.small);
      within = omega (arith, i.within);
      long = length-set c.loop-rest.digits start (48 + rest % 10) ∙ i.long;
      room = omega (arith, i.room, more, some);
      text = ap (λ k. decimal (rest / 10) ++ drop k (set c.loop-rest.digits start (48 + rest % 10))) back
          ∙ digit_before rest start c.loop-rest.digits c.loop-rest-test.true small here ∙ i.text;
    }

pub returns-clause-text : goal.returns-clause-text
returns-clause-text c =
    let i = c.loop-rest.invariant in
    let here : c.loop-rest.start < length c.loop-rest.digits = omega (arith, i.long, i.within) in
    let text : drop c.loop-rest.start (set c.loop-rest.digits c.loop-rest.start (48 + c.loop-rest.rest)) ≡ decimal c.args.number =
    digit_first c.loop-rest.rest c.loop-rest.start c.loop-rest.digits c.loop-rest-test.false here ∙ i.text in
    let small : c.args.number < 2 ^ 64 = omega (arith, c.ranges.number.fits) in
    rw text (IsDecimalText-decimal c.args.number small)
