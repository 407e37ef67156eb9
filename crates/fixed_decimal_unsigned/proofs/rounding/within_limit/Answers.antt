use Rattle.std.proofs.Common.{arith}
use Rattle.fixed_decimal_unsigned.proofs.RangeLemmas.{limited_zero}
use Rattle.fixed_decimal_unsigned.proofs.rounding.within_limit.Goals as goal

pub returns-then-top-clause-value : goal.returns-then-top-clause-value
returns-then-top-clause-value c = limited_zero c.args.digits.now.items c.clear.new.self.items c.args.top 32768 c.requires (omega arith) c.clear.ensures.items
