use Rattle.fixed_decimal_unsigned.proofs.ShiftLemmas.{trims_start}
use Rattle.fixed_decimal_unsigned.proofs.unsigned_decimal.UnsignedDecimal.trim_start.Goals as goal

pub returns : goal.returns
returns c =
    let i = c.self.inside in
    trims_start i.digits.items i.top i.low i.high c.max-self-inside.result c.args.self.now c.self.invariant c.self.view_is c.max-self-inside.ensures
