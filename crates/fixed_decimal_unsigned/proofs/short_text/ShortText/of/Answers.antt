use Rattle.std.proofs.Common.{◌-◌, ◌∙◌, length, sym, arith}
use Rattle.fixed_decimal_digits.proofs.WordLemmas.{power_positive}
use Rattle.fixed_decimal_unsigned.proofs.ShortTextLemmas.{short_whole, short_both, room_after}
use Rattle.fixed_decimal_unsigned.proofs.short_text.ShortText.of.Goals as goal

pub word_behind-whole-requires-clause-room : goal.word_behind-whole-requires-clause-room
word_behind-whole-requires-clause-room c = power_positive (16 - length c.args.text.now)

pub returns-then-above-text : goal.returns-then-above-text
returns-then-above-text c =
    let whole = c.word_behind-whole in
    short_whole c.args.text.now whole.result.0 whole.result.1 (omega (arith, c.if-text-gt-WORD_DIGITS.false)) c.if-above-text.true (omega (arith, c.if-above-eq0.false)) whole.ensures.digits whole.ensures.word

pub word_behind-word-requires-clause-room : goal.word_behind-word-requires-clause-room
word_behind-word-requires-clause-room c =
    let whole = c.word_behind-whole in
    room_after c.args.text.now c.in_ok-point.fraction.now c.in_ok-point.point.now whole.result.0 whole.result.1 (omega (arith, c.if-text-gt-WORD_DIGITS.false)) whole.ensures.within
    (sym c.split_at.ensures.back ∙ c.in_ok-point.ensures.cases.0) whole.ensures.digits whole.ensures.word

pub returns : goal.returns
returns c =
    let whole = c.word_behind-whole in let word = c.word_behind-word in
    short_both c.args.text.now c.in_ok-point.fraction.now c.in_ok-point.point.now whole.result.0 word.result.0 whole.result.1 word.result.1 (omega (arith, c.if-text-gt-WORD_DIGITS.false)) whole.ensures.within
    (sym c.split_at.ensures.back ∙ c.in_ok-point.ensures.cases.0) (omega (arith, c.if-point-ne46.false)) whole.ensures.digits whole.ensures.word
    (omega (arith, word.ensures.within, c.if-below-fraction.false)) (omega (arith, c.if-below-eq0.false)) word.ensures.digits word.ensures.word
