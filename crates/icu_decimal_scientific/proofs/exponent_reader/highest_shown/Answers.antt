use Rattle.std.proofs.Common.{◌+◌, ◌∙◌, ap, max}
use Rattle.icu_decimal_scientific.proofs.ShownExponentLemmas.{highest_is}
use Rattle.icu_decimal_scientific.proofs.exponent_reader.highest_shown.Goals as goal

pub returns : goal.returns
returns c =
    highest_is c.args.number.now.count c.first_place.result c.args.least c.max-2.result c.first_place.ensures.holds c.first_place.ensures.zero c.first_place.ensures.reaches
    (c.max-2.ensures ∙ ap (λ k. max k (32767 + c.args.least)) c.max.ensures)
