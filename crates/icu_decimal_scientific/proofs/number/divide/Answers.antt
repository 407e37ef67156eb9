use Rattle.std.proofs.Common.{◌∙◌, ap, w32}
use Rattle.std.proofs.lemmas.Int.{to_z-of_z}
use Rattle.fixed_decimal.specs.Shifts.{fall}
use Rattle.icu_decimal_scientific.proofs.DivisionLemmas.{raised_when_falling}
use Rattle.icu_decimal_scientific.proofs.number.divide.Goals as goal

pub raise_far-requires-clause-few : goal.raise_far-requires-clause-few
raise_far-requires-clause-few c =
    raised_when_falling c.args.number.now.count c.args.exponent c.fall_of-by.result (c.fall_of-by.ensures ∙ ap fall (to_z-of_z w32 c.args.exponent c.ranges.exponent)) c.if-by-gt0.true c.requires.few
