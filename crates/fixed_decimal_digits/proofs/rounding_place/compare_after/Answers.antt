use Rattle.std.proofs.Common.{◌≡◌, arith}
use Rattle.fixed_decimal_digits.proofs.PlaceLemmas.{far_less, after_less, after_greater, after_more, after_equal}
use Rattle.fixed_decimal_digits.proofs.rounding_place.compare_after.Goals as goal

pub returns-then-place-top : goal.returns-then-place-top
returns-then-place-top c = far_less c.args.digits.now.items c.args.top c.args.place c.requires.trimmed (omega (arith, c.if-place-top.true))

pub returns-then-first-lt5 : goal.returns-then-first-lt5
returns-then-first-lt5 c =
    after_less c.args.digits.now.items c.args.top c.args.place c.args.kept c.get-first.result c.requires.trimmed c.requires.kept (omega (arith, c.if-place-top.false)) c.requires.rest
    c.get-first.ensures.value c.if-first-lt5.true

pub returns-then-first-gt5 : goal.returns-then-first-gt5
returns-then-first-gt5 c =
    after_greater c.args.digits.now.items c.args.top c.args.place c.args.kept c.get-first.result c.requires.trimmed c.requires.kept (omega (arith, c.if-place-top.false)) c.requires.rest
    c.get-first.ensures.value c.if-first-gt5.true

pub returns-then-kept-len : goal.returns-then-kept-len
returns-then-kept-len c =
    let five : c.get-first.result ≡ 5 = omega (arith, c.if-first-lt5.false, c.if-first-gt5.false) in
    after_more c.args.digits.now.items c.args.top c.args.place c.args.kept c.get-first.result c.requires.trimmed c.requires.kept (omega (arith, c.if-place-top.false))
    (omega (arith, c.if-kept-len.true, c.len.ensures.value)) c.get-first.ensures.value five

pub returns : goal.returns
returns c =
    let five : c.get-first.result ≡ 5 = omega (arith, c.if-first-lt5.false, c.if-first-gt5.false) in
    after_equal c.args.digits.now.items c.args.top c.args.place c.args.kept c.get-first.result c.requires.trimmed c.requires.kept (omega (arith, c.if-place-top.false))
    (omega (arith, c.if-kept-len.false, c.len.ensures.value, c.requires.rest)) c.get-first.ensures.value five
