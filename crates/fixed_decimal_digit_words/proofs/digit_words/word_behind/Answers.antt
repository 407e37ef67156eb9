use Rattle.std.proofs.Common.{◌≡◌, ◌+◌, ◌-◌, ◌*◌, ◌^◌, ◌<◌, ◌≤◌, ◌∙◌, length, get_or, sym, ap, subst, arith}
use Rattle.std.proofs.lemmas.Int.Digits.{digits_more}
use Rattle.std.specs.Char.{digit_value}
use Rattle.fixed_decimal_digit_words.proofs.WordLemmas.{word_fits, room_more, front_more}
use Rattle.fixed_decimal_digit_words.proofs.digit_words.word_behind.Goals as goal

pub overflow_mul-after : goal.overflow_mul-after
overflow_mul-after c =
    let left = 16 - (length c.args.text.now - c.loop-count.count) in
    let few : left ≤ 15 = omega (arith, c.loop-count-test.true) in
    let fits = word_fits c.loop-count.after 0 left few c.loop-count.invariant.room (omega arith) in
    omega (arith, fits)

pub overflow_add-after : goal.overflow_add-after
overflow_add-after c =
    let left = 16 - (length c.args.text.now - c.loop-count.count) in
    let few : left ≤ 15 = omega (arith, c.loop-count-test.true) in
    let ten : c.from.result < 10 = subst (λ d. d < 10) (sym (c.from.ensures ∙ c.digit_of.ensures)) c.if-not-is_ascii_digit.ensures.bound in
    let fits = word_fits c.loop-count.after c.from.result left few c.loop-count.invariant.room ten in
    omega (arith, fits)

pub loop-count-preserved : goal.loop-count-preserved
loop-count-preserved c =
    let text = c.args.text.now in let i = c.loop-count.count in
    let left = 16 - (length text - i) in
    let next : left + 1 ≡ 16 - (length text - (i + 1)) = omega (arith, c.loop-count-test.true, c.requires.few) in
    let digit : digit_value (get_or text i 0) < 10 = c.if-not-is_ascii_digit.ensures.bound in
    let same : c.from.result ≡ digit_value (get_or text i 0) = c.from.ensures ∙ c.digit_of.ensures in
    let ten : c.from.result < 10 = subst (λ d. d < 10) (sym same) digit in
    record {
      within = omega (arith, c.loop-count-test.true);
      digits = digits_more 10 text i c.loop-count-test.true c.loop-count.invariant.digits digit;
      room = subst (λ n. c.loop-count.after * 16 + c.from.result < 16 ^ n) next (room_more c.loop-count.after c.from.result left c.loop-count.invariant.room ten);
      word = ap (λ d. c.loop-count.after * 16 + d) same ∙ front_more text i c.args.word c.loop-count.after c.loop-count-test.true c.loop-count.invariant.word;
    }
