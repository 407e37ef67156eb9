use Rattle.std.proofs.Common.{arith}
use Rattle.fixed_decimal_unsigned.proofs.LongLemmas.{not_long, ok_unless}
use Rattle.fixed_decimal_unsigned.proofs.unsigned_decimal.UnsignedDecimal.from_u16.Goals as goal

pub returns-clause-succeeds : goal.returns-clause-succeeds
returns-clause-succeeds c = ok_unless c.from_whole.result c.from_whole.ensures.room (not_long c.from.result (let fits = c.ranges.integer in omega (arith, c.from.ensures)))
