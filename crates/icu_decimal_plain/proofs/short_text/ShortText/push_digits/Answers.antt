use Rattle.std.proofs.Common.{◌≡◌, ◌+◌, ◌-◌, ◌≤◌, ◌++◌, ◌∙◌, ap, append_assoc, arith, length, length-append, map, slice_index, sym, take}
use Rattle.icu_decimal_plain.specs.PlainText.{chained, digit_text}
use Rattle.icu_decimal_plain.proofs.PieceLemmas.{held_itself}
use Rattle.icu_decimal_plain.proofs.PlainTextLemmas.{few_bytes, next_rest, next_text, tens_first, tens_rest}
use Rattle.icu_decimal_plain.proofs.short_text.ShortText.push_digits.Goals as goal

pub push-requires-clause-piece : goal.push-requires-clause-piece
push-requires-clause-piece c =
    held_itself _ _ (c.args.table.now.held c.in-Some.digit (tens_first c.loop-left.digits c.next.new.self c.in-Some.digit c.in-Some.ensures.steps c.loop-left.invariant.tens))

pub loop-left-preserved : goal.loop-left-preserved
loop-left-preserved c =
    let table = c.args.table.now.chars.now in
    let left = c.loop-left.left in
    let was = c.loop-left.digits in
    let rest = c.next.new.self in
    let next : left ≡ (left - 1) + 1 = omega arith in
    let ten = tens_first was rest c.in-Some.digit c.in-Some.ensures.steps c.loop-left.invariant.tens in
    let piece = c.args.table.now.held c.in-Some.digit ten in
    let put = c.push.ensures ∙ ap (λ text. c.loop-left.self ++ text) piece.is in
    let text = digit_text table c.in-Some.digit in
    let few : length text ≤ 4 = few_bytes (slice_index table c.in-Some.digit) in
    let size = length-append c.loop-left.self text in
    let after = ap length put in
    record {
      left = let before = c.loop-left.invariant.left in omega (arith, before);
      tens = tens_rest was rest c.in-Some.digit c.in-Some.ensures.steps c.loop-left.invariant.tens;
      digits = sym (next_rest was rest left (left - 1) c.in-Some.digit next c.in-Some.ensures.steps) ∙ c.loop-left.invariant.digits;
      text = ap (λ bytes. bytes ++ chained (map (digit_text table) (take (left - 1) rest))) put
          ∙ append_assoc c.loop-left.self text (chained (map (digit_text table) (take (left - 1) rest)))
          ∙ ap (λ text. c.loop-left.self ++ text) (sym (next_text table was rest left (left - 1) c.in-Some.digit next c.in-Some.ensures.steps))
          ∙ c.loop-left.invariant.text;
      room = let before = c.loop-left.invariant.room in omega (arith, before, few, size, after);
    }
