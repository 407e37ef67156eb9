use Rattle.std.proofs.Common.{◌≡◌, ◌+◌, ◌-◌, ◌++◌, subst, sym, length, map, take, ap, ◌∙◌, arith, length-drop}
use Rattle.std.specs.Int.Digits.{AllBelowBase}
use Rattle.fixed_decimal_digits.proofs.DigitsLemmas.{below_drop}
use Rattle.fixed_decimal_unsigned.specs.Number.{digits_down}
use Rattle.fixed_decimal_unsigned.specs.NumberText.{character}
use Rattle.fixed_decimal_unsigned.proofs.WritingLemmas.{length_down, tens_down, spelled_all, spelled_block, zeros_below}
use Rattle.fixed_decimal_unsigned.proofs.writing.spell.Goals as goal

pub loop-done-init : goal.loop-done-init
loop-done-init c =
    let count = c.args.number.now.count in
    let base = c.args.base in
    let size = c.args.size in
    let shown : c.digits_at-digits.result ≡ digits_down count base size = c.digits_at-digits.ensures ∙ ap (λ v. digits_down v.count base size) c.number.view_is in
    let long = ap length shown ∙ length_down count base size in
    let none : c.args.from + 0 ≡ c.args.from = omega arith in
    record {
      done = omega arith;
      room = c.told-piece;
      left = omega (arith, long);
      blocks = λ _. omega arith;
      tens = subst (AllBelowBase 10) (sym shown) (tens_down count base size);
      spelled = (λ i. take (none i) c.args.piece.now ++ map character (shown i));
    }

pub put_characters-requires-clause-tens : goal.put_characters-requires-clause-tens
put_characters-requires-clause-tens c = c.next_block-count.ensures.tens c.loop-done.invariant.tens (zeros_below 16)

pub loop-done-preserved : goal.loop-done-preserved
loop-done-preserved c =
    let l = c.loop-done in
    let count = c.next_block-count.result in
    let next = c.next_block-count.ensures.count in
    let left = l.invariant.left in
    let going = c.loop-done-test.true in
    let blocks = l.invariant.blocks going in
    let rest : length c.next_block-count.new.self ≡ length l.digits - count = ap length c.next_block-count.ensures.rest ∙ length-drop count l.digits in
    let at : c.args.from + (l.done + count) ≡ c.args.from + l.done + count = omega arith in
    let room = c.requires.room in
    record {
      done = omega (arith, next, left, going);
      room = c.put_characters.array_long;
      left = omega (arith, rest, left, next);
      blocks = λ more. omega (arith, next, left, blocks, more);
      tens = subst (AllBelowBase 10) (sym c.next_block-count.ensures.rest) (below_drop count l.digits l.invariant.tens);
      spelled = ap (λ n. take n c.put_characters.new.piece ++ map character c.next_block-count.new.self) at
          ∙ spelled_block l.piece c.put_characters.new.piece c.next_block-count.new.block l.digits c.next_block-count.new.self (c.args.from + l.done) count
          (omega (arith, room, blocks, going, l.invariant.room)) (omega (arith, next)) c.put_characters.ensures c.next_block-count.ensures.taken c.next_block-count.ensures.rest
          ∙ l.invariant.spelled;
    }

pub returns : goal.returns
returns c =
    let l = c.loop-done in
    let past = c.loop-done-test.false in
    let left = l.invariant.left in
    let within = l.invariant.done in
    spelled_all l.piece l.digits _ c.args.from l.done c.args.size (omega (arith, past, within)) (omega (arith, left, past)) l.invariant.spelled
