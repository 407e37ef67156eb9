use Rattle.std.proofs.Common.{ap, ◌+◌, ◌*◌}
use Rattle.std.proofs.lemmas.Iterator.Consumers.{count_from_yields_List}
use Rattle.std.proofs.lemmas.Iterator.Splits.{YieldsList-from_lines}
use Rattle.locale_numbers_book.proofs.texts.chain.most_steps.Goals as goal

pub returns : goal.returns
returns c = ap (λ n. 5 * n + 4) (count_from_yields_List c.lines.result _ c.count.ensures.ran (YieldsList-from_lines c.args.parents.now c.lines.ensures.rest))
