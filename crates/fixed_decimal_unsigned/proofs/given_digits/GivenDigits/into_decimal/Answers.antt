use Rattle.std.proofs.Common.{◌≡◌, ◌+◌, ◌-◌, ◌*◌, ◌^◌, ◌<◌, ◌∙◌, ap, arith, max, min, refl, subst}
use Rattle.std.specs.Int.Digits.{number_from_digits}
use Rattle.fixed_decimal_unsigned.specs.NumberText.{number_at}
use Rattle.fixed_decimal_unsigned.proofs.MantissaLemmas.{assembled_is, from_fields}
use Rattle.fixed_decimal_unsigned.proofs.given_digits.GivenDigits.into_decimal.Goals as goal

pub assembled-requires-clause-tight : goal.assembled-requires-clause-tight
assembled-requires-clause-tight c = c.self.invariant.tight

pub returns-clause-value : goal.returns-clause-value
returns-clause-value c =
    let i = c.self.inside in
    let fraction = c.args.fraction in
    let ends = c.in-Some.ends in
    let number = number_from_digits 10 i.kept.items in
    let counted = ap (λ v. v.count) c.self.view_is in
    let some : 0 < (i.given - fraction) + fraction = omega (arith, counted, c.requires.some, c.requires.within) in
    subst (λ v. c.assembled.result ≡ number_at v.mantissa (v.count - fraction) fraction 0 0) c.self.view_is
    (from_fields c.assembled.result (number * 10 ^ (ends.last + i.zeros)) (min 32768 ends.last) (max 32768 ends.first) c.assembled.ensures.count c.assembled.ensures.low c.assembled.ensures.high
    ∙ assembled_is (number * 10 ^ i.zeros) (i.given - fraction) fraction 0 0 number i.zeros ends.first ends.last c.in-Some.ensures.within some refl c.in-Some.ensures.first c.in-Some.ensures.last)
