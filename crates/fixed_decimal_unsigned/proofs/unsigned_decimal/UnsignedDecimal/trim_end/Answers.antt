use Rattle.fixed_decimal_unsigned.proofs.ShiftLemmas.{trims_end}
use Rattle.fixed_decimal_unsigned.proofs.unsigned_decimal.UnsignedDecimal.trim_end.Goals as goal

pub returns : goal.returns
returns c =
    let i = c.self.inside in
    trims_end i.digits.items i.top i.low i.high c.end_below-self-inside.result c.args.self.now c.self.invariant c.self.view_is c.end_below-self-inside.ensures
