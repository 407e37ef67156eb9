use Rattle.std.proofs.Common.{arith}
use Rattle.icu_decimal_plurals.proofs.NumberLemmas.{next_fits}
use Rattle.icu_decimal_plurals.proofs.tokens.value_of.Goals as goal

pub overflow_mul-number : goal.overflow_mul-number
overflow_mul-number c =
    let fits = next_fits c.args.digits.now c.loop-digit.digit-index c.loop-digit.number c.requires.digits c.requires.short c.loop-digit-test.true c.loop-digit.invariant in grind (arith)
