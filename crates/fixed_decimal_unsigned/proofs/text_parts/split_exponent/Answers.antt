use Rattle.std.proofs.Common.{◌≡◌, ◌∷◌, length, ap, rules}
use Rattle.fixed_decimal_unsigned.proofs.TextPartsLemmas.{found_exponent, no_exponent, not_none}
use Rattle.fixed_decimal_unsigned.proofs.text_parts.split_exponent.Goals as goal

pub returns-in_default-clause-some : goal.returns-in_default-clause-some
returns-in_default-clause-some c = no_exponent c.args.text.now (search rules)

pub returns-then-not-is_empty-clause-none : goal.returns-then-not-is_empty-clause-none
returns-then-not-is_empty-clause-none c = λ negative exponent h.
    let first : c.args.text.now ≡ c.in-Some.mark.now ∷ c.in-Some.tail.now = search rules in
    let found = found_exponent c.args.text.now c.in-Some.tail.now c.split_minus-negative.result.1.now c.split_digits.result.0.now c.split_digits.result.1.now
    c.in-Some.mark.now c.split_minus-negative.result.0 first c.split_minus-negative.ensures.whole c.split_minus-negative.ensures.none
    c.split_digits.ensures.whole c.split_digits.ensures.digits c.split_digits.ensures.rest negative exponent h in
    let gone : length c.split_digits.result.1.now ≡ 0 = ap length found.1 in
    not_none (length c.split_digits.result.1.now) c.if-not-is_empty.ensures gone
