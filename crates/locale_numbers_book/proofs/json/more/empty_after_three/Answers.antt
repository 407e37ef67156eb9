use Rattle.std.proofs.Common.{◌∙◌, arith}
use Rattle.locale_numbers_book.proofs.MoreLemmas.{right}
use Rattle.locale_numbers_book.proofs.json.more.empty_after_three.Goals as goal

pub returns : goal.returns
returns c = c.are_empty.ensures ∙ right c.args.items.now (omega arith) (omega arith)
