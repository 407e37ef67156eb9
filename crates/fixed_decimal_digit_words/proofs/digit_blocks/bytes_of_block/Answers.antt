use Rattle.std.proofs.Common.{◌*◌, ◌≤◌, length, arith}
use Rattle.fixed_decimal_digit_words.proofs.BlockLemmas.{bytes_whole}
use Rattle.fixed_decimal_digit_words.proofs.digit_blocks.bytes_of_block.Goals as goal

pub returns : goal.returns
returns c =
    let text = c.args.text.now in let i = c.loop-index.index in
    let none : length text ≤ 2 * i = grind (arith, c.loop-index-test.false, c.requires.even, c.loop-index.invariant.within) in
    bytes_whole text c.loop-index.bytes i none c.loop-index.invariant.within c.loop-index.invariant.bytes
