use Rattle.std.proofs.Common.{◌%◌, ◌^◌, ◌∙◌, ap, of_z, rules, to_z, w32}
use Rattle.icu_decimal_scientific.specs.FormOf.{below_form}
use Rattle.icu_decimal_scientific.proofs.FormOfLemmas.{below_is, is_formed}
use Rattle.icu_decimal_scientific.proofs.number.is_formed.Goals as goal

pub returns : goal.returns
returns c =
    is_formed c.is_whole_at.result (c.args.number.now.count % 10 ^ c.rise_of.result) (below_form c.args.notation c.args.number.now.count)
    (ap (λ k. c.args.number.now.count % 10 ^ k) c.rise_of.ensures
    ∙ below_is c.args.notation c.args.number.now (to_z w32 (of_z w32 c.exponent_of-exponent.result)) c.magnitude_range-number.ensures.number (search rules))
    c.is_whole_at.ensures.whole c.is_whole_at.ensures.part
