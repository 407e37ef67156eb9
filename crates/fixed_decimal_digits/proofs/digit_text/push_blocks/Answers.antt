use Rattle.std.proofs.Common.{◌≡◌, ◌+◌, ◌++◌, ◌∙◌, length, map, subst, ap, arith}
use Rattle.std.specs.Char.{digit_value}
use Rattle.fixed_decimal_digit_words.specs.DigitText.{AreDigits}
use Rattle.fixed_decimal_digits.proofs.BlockLemmas.{parts_pushed, pushed_length, digits_ahead, digits_past}
use Rattle.fixed_decimal_digits.proofs.digit_text.push_blocks.Goals as goal

pub push_block-requires-clause-text_digits : goal.push_block-requires-clause-text_digits
push_block-requires-clause-text_digits c =
    let r = c.split_at.result in
    digits_ahead r.0.now r.1.now (subst AreDigits c.split_at.ensures.by_index.0 c.loop-rest.invariant.digits)

pub loop-rest-preserved : goal.loop-rest-preserved
loop-rest-preserved c =
    let r = c.split_at.result in
    let whole = c.split_at.ensures.by_index.0 in
    let pushed : length c.push_block.new.self.items ≡ length c.loop-rest.digits.items + length r.0.now =
    ap length c.push_block.ensures.items ∙ pushed_length c.loop-rest.digits.items r.0.now in
    record {
      digits = digits_past r.0.now r.1.now (subst AreDigits whole c.loop-rest.invariant.digits);
      items = ap (λ ds. ds ++ map digit_value r.1.now) c.push_block.ensures.items ∙ parts_pushed c.loop-rest.digits.items r.0.now r.1.now c.loop-rest.rest.now whole ∙ c.loop-rest.invariant.items;
      room = omega (arith, pushed, c.split_at.ensures.front_len, c.split_at.ensures.back_len, c.loop-rest.invariant.room, c.push_block.ensures.capacity);
      even = omega (arith, pushed, c.split_at.ensures.front_len, c.loop-rest.invariant.even);
      capacity = omega (arith, c.loop-rest.invariant.capacity, c.push_block.ensures.capacity);
    }
