use Rattle.icu_decimal_scientific.proofs.FormOfLemmas.{bare_quotient}
use Rattle.icu_decimal_scientific.proofs.carry.lower_bare.Goals as goal

pub returns : goal.returns
returns c =
    bare_quotient c.args.number.now c.lower_trimmed.new.number c.trim_end.new.self c.trim_start.new.self c.args.by c.lower_trimmed.ensures.count
    c.trim_end.ensures c.trim_start.ensures c.magnitude_range-number.ensures.number
