use Rattle.std.proofs.Common.{◌<◌, arith, rules, subst}
use Rattle.fixed_decimal.specs.Number.{place}
use Rattle.fixed_decimal.specs.Range.{Rounds}
use Rattle.fixed_decimal.specs.declared.RoundingIncrement.TheVariants.{MultiplesOf1}
use Rattle.fixed_decimal.specs.declared.UnsignedRoundingMode.TheVariants.{Trunc}
use Rattle.locale_numbers_formatter.proofs.DivisionLemmas.{divided_is}
use Rattle.locale_numbers_formatter.proofs.compact_digits.divide_cut.Goals as goal

pub returns : goal.returns
returns c =
    let rounds : Rounds Trunc MultiplesOf1 (place c.position_of.result) c.args.number.now c.trunc.new.self = search rules in
    divided_is c.args.exponent c.args.number.now c.trunc.new.self c.magnitude_range-number.ensures.number
    (subst (λ at. Rounds Trunc MultiplesOf1 at c.args.number.now c.trunc.new.self) c.position_of.ensures rounds)
    c.divide.new.rounded (let fits : c.args.exponent < 256 = c.ranges.exponent.fits in omega (arith, fits)) c.divide.ensures
