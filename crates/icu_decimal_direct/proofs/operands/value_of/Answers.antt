use Rattle.std.proofs.Common.{arith}
use Rattle.icu_decimal_direct.proofs.OperandsLemmas.{next_fits}
use Rattle.icu_decimal_direct.proofs.operands.value_of.Goals as goal

pub overflow_mul-value : goal.overflow_mul-value
overflow_mul-value c =
    let fits = next_fits c.args.digits.now c.loop-digit.digit-index c.loop-digit.value c.requires.digits c.requires.few c.loop-digit-test.true c.loop-digit.invariant in grind (arith)
