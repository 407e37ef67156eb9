use Rattle.icu_decimal_plain.proofs.ShortRunLemmas.{block_front, zeros_below}
use Rattle.icu_decimal_plain.proofs.short_runs.block_of.Goals as goal

pub returns-clause-front : goal.returns-clause-front
returns-clause-front c =
    block_front c.args.digits.now c.next_block.new.block c.next_block.result c.requires.few c.next_block.ensures.count c.next_block.ensures.taken

pub returns-clause-tens : goal.returns-clause-tens
returns-clause-tens c = c.next_block.ensures.tens c.requires.tens (zeros_below 16)
