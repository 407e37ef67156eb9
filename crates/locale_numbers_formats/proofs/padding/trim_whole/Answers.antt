use Rattle.locale_numbers_formats.proofs.ChangedLemmas.{trims_whole_is}
use Rattle.locale_numbers_formats.proofs.padding.trim_whole.Goals as goal

pub returns : goal.returns
returns c = trims_whole_is c.args.number.now c.trim_end_if_integer.new.self c.trim_end_if_integer.ensures
