use Rattle.std.proofs.Common.{arith}
use Rattle.icu_decimal_direct.proofs.LaneLemmas.{digits_lapped}
use Rattle.icu_decimal_direct.proofs.reading.digits_ahead_few.Goals as goal

pub returns-clause-digits : goal.returns-clause-digits
returns-clause-digits c =
    let first = c.digits_in_four-first in
    let all = c.if-first-lt4.false in
    let long = c.if-text-lt4.false in
    let few = c.requires in
    digits_lapped c.args.text.now first.result _ c.digits_in_four-more.result (omega (arith, all, few)) (omega (arith, long)) first.ensures.digits c.digits_in_four-more.ensures.digits
