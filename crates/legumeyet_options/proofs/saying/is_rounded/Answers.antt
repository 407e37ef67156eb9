use Rattle.locale_numbers_answers.proofs.AmountLemmas.{own_decides}
use Rattle.legumeyet_options.proofs.saying.is_rounded.Goals as goal

pub returns : goal.returns
returns c = own_decides c.args.fraction c.args.value.now c.is_rounded.result c.is_rounded.ensures
