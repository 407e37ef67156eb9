use Rattle.std.proofs.Common.{◌++◌, ap, rules, ◌∙◌}
use Rattle.fixed_decimal_unsigned.proofs.TextPartsLemmas.{no_fraction, no_power, no_digits}
use Rattle.fixed_decimal_unsigned.proofs.text_parts.TextParts.of.Goals as goal

pub returns-in_default-clause-none : goal.returns-in_default-clause-none
returns-in_default-clause-none c =
    no_fraction c.args.text.now c.split_digits.result.0.now c.split_digits.result.1.now c.split_digits.ensures.whole c.split_digits.ensures.digits c.in_default.ensures.none

pub returns-in_default-split_exponent-clause-none :
    goal.returns-in_default-split_exponent-clause-none
returns-in_default-split_exponent-clause-none c =
    let some = c.in-Some.ensures.some in
    no_power c.args.text.now c.split_digits.result.0.now c.in-Some.fraction.now c.in-Some.last.now
    (c.split_digits.ensures.whole ∙ ap (λ r. c.split_digits.result.0.now ++ r) some.0) c.split_digits.ensures.digits some.1 some.2 c.in-Some.ensures.point
    c.in_default-split_exponent.ensures.none

pub returns-then-is_empty-2-clause-none : goal.returns-then-is_empty-2-clause-none
returns-then-is_empty-2-clause-none c =
    let some = c.in-Some.ensures.some in
    no_digits c.args.text.now c.split_digits.result.0.now c.in-Some.fraction.now c.in-Some.last.now
    (c.split_digits.ensures.whole ∙ ap (λ r. c.split_digits.result.0.now ++ r) some.0) c.split_digits.ensures.digits some.1 some.2 c.in-Some.ensures.point
    (search rules) (search rules)
