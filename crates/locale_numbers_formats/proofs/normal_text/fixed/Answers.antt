use Rattle.locale_numbers_formats.proofs.NormalLemmas.{fixed_is}
use Rattle.locale_numbers_formats.proofs.normal_text.fixed.Goals as goal

pub returns : goal.returns
returns c = fixed_is c.args.word.now
