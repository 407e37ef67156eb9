use Rattle.locale_numbers_formats.proofs.IncrementLemmas.{rest_is}
use Rattle.locale_numbers_formats.proofs.increments.from_first.Goals as goal

pub returns : goal.returns
returns c = rest_is c.args.text.now c.leading.result c.leading.ensures.count
