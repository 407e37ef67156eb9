use Rattle.std.proofs.Common.{◌∙◌, of_z, rules, to_z, w32}
use Rattle.icu_decimal_scientific.proofs.FormOfLemmas.{reach_is}
use Rattle.icu_decimal_scientific.proofs.carry.reach_of.Goals as goal

pub returns-clause-value : goal.returns-clause-value
returns-clause-value c =
    c.rise_of.ensures ∙ reach_is c.args.notation c.args.number.now (to_z w32 (of_z w32 c.exponent_of-exponent.result)) c.magnitude_range-number.ensures.number (search rules)
