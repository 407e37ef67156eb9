use Rattle.std.proofs.Common.{arith}
use Rattle.icu_decimal_plain.proofs.DigitChunkLemmas.{block_part}
use Rattle.icu_decimal_plain.proofs.digit_chunks.put_next.Goals as goal

pub returns-clause-chunk : goal.returns-clause-chunk
returns-clause-chunk c =
    let count = c.next_block-count.ensures.count in
    block_part c.args.chunk.now c.set_block.new.chunk c.next_block-count.new.block c.args.digits.now c.args.at c.next_block-count.result (omega (arith, count)) (omega arith) c.set_block.ensures c.next_block-count.ensures.taken
