use Rattle.std.proofs.Common.{◌+◌, arith, refl}
use Rattle.icu_decimal_direct.proofs.LaneLemmas.{digits_both_eights, digits_lapped}
use Rattle.icu_decimal_direct.proofs.reading.digits_ahead.Goals as goal

pub digits_from-requires-clause-known : goal.digits_from-requires-clause-known
digits_from-requires-clause-known c =
    let first = c.digits_in_eight-first in
    let more = c.digits_in_eight-more in
    let all = c.if-first-lt8.false in
    let both = c.if-more-lt8.false in
    let long = c.if-text-lt8.false in
    digits_both_eights c.args.text.now first.result more.result 16 (omega (arith, all, first.ensures.few)) (omega (arith, long)) (omega (arith, both, more.ensures.few)) first.ensures.digits more.ensures.digits

pub returns-then-text-lt16-clause-digits : goal.returns-then-text-lt16-clause-digits
returns-then-text-lt16-clause-digits c =
    let first = c.digits_in_eight-first in
    let all = c.if-first-lt8.false in
    let short = c.if-text-lt16.true in
    let long = c.if-text-lt8.false in
    digits_lapped c.args.text.now first.result _ c.digits_in_eight-lapping.result (omega (arith, all, short)) (omega (arith, long)) first.ensures.digits c.digits_in_eight-lapping.ensures.digits

pub returns-then-more-lt8-clause-digits : goal.returns-then-more-lt8-clause-digits
returns-then-more-lt8-clause-digits c =
    let first = c.digits_in_eight-first in
    let more = c.digits_in_eight-more in
    let all = c.if-first-lt8.false in
    let long = c.if-text-lt8.false in
    digits_both_eights c.args.text.now first.result more.result (8 + more.result) (omega (arith, all, first.ensures.few)) (omega (arith, long)) refl first.ensures.digits more.ensures.digits
