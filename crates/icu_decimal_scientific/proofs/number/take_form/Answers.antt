use Rattle.std.proofs.Common.{of_z, rules, to_z, w32}
use Rattle.icu_decimal_scientific.proofs.FormLemmas.{can_raise}
use Rattle.icu_decimal_scientific.proofs.number.take_form.Goals as goal

pub take_significand-requires-clause-few : goal.take_significand-requires-clause-few
take_significand-requires-clause-few c =
    can_raise c.args.notation c.args.number.now (to_z w32 (of_z w32 c.exponent_of-exponent.result)) c.magnitude_range-number.ensures.number (search rules)
