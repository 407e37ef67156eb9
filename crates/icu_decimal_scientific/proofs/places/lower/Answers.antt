use Rattle.std.proofs.Common.{rules}
use Rattle.icu_decimal_scientific.proofs.ProductLemmas.{is_lowered}
use Rattle.icu_decimal_scientific.proofs.places.lower.Goals as goal

pub returns : goal.returns
returns c =
    is_lowered _ c.args.number.now c.multiply_pow10.new.self c.args.by c.magnitude_range-number.ensures.number c.multiply_pow10.ensures (search rules) (search rules) c.requires
