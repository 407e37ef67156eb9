use Rattle.std.proofs.Common.{◌<◌, lit≤, subst, sym}
use Rattle.icu_decimal_scientific.proofs.ShownExponentLemmas.{few_above, few_digits, many_digits, whole_number}
use Rattle.icu_decimal_scientific.proofs.exponent_reader.whole_of.Goals as goal

pub returns-then-first-gt32772-clause-none : goal.returns-then-first-gt32772-clause-none
returns-then-first-gt32772-clause-none c =
    many_digits c.args.number.now.count c.first_place-first.result c.first_place-first.ensures.zero c.first_place-first.ensures.reaches c.if-first-gt32772.true

pub five_digits-requires : goal.five_digits-requires
five_digits-requires c = few_digits c.args.number.now.count c.first_place-first.result c.first_place-first.ensures.holds c.if-first-gt32772.false

pub returns-clause-some : goal.returns-clause-some
returns-clause-some c = whole_number c.args.number.now c.five_digits.result c.magnitude_range-number.ensures.number c.requires c.five_digits.ensures

pub returns-clause-small : goal.returns-clause-small
returns-clause-small c =
    subst (λ k. k < 100000) (sym c.five_digits.ensures)
    (few_above c.args.number.now.count 32768 (few_digits c.args.number.now.count c.first_place-first.result c.first_place-first.ensures.holds c.if-first-gt32772.false) (lit≤ tt))
