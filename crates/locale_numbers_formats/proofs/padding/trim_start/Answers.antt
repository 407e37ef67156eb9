use Rattle.locale_numbers_formats.proofs.ChangedLemmas.{trims_start_is}
use Rattle.locale_numbers_formats.proofs.padding.trim_start.Goals as goal

pub returns : goal.returns
returns c = trims_start_is c.args.number.now c.trim_start.new.self c.magnitude_range-number.ensures.number c.trim_start.ensures
