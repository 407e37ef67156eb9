use Rattle.fixed_decimal_signed.proofs.SignedOrderLemmas.{signed_modes}
use Rattle.fixed_decimal_signed.proofs.laws.signed_modes_go_by_order.Goals as goal

pub returns : goal.returns
returns c = signed_modes
