use Rattle.std.proofs.Common.{◌∙◌, sym}
use Rattle.fixed_decimal_unsigned.proofs.ShiftLemmas.{trims_whole, trims_not}
use Rattle.fixed_decimal_unsigned.proofs.unsigned_decimal.UnsignedDecimal.trim_end_if_integer.Goals as goal

pub returns-then-end_below : goal.returns-then-end_below
returns-then-end_below c =
    let i = c.self.inside in
    trims_whole i.digits.items i.top i.low i.high c.args.self.now c.self.invariant c.self.view_is (sym c.end_below.ensures ∙ c.if-end_below.true)

pub returns-else-end_below : goal.returns-else-end_below
returns-else-end_below c =
    let i = c.self.inside in
    trims_not i.digits.items i.top i.low i.high c.args.self.now c.self.invariant c.self.view_is (λ e. c.if-end_below.false (c.end_below.ensures ∙ e))
