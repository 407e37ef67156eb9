use Rattle.locale_numbers_formats.proofs.ChangedLemmas.{trims_end_is}
use Rattle.locale_numbers_formats.proofs.padding.trim_fraction.Goals as goal

pub returns : goal.returns
returns c = trims_end_is c.args.number.now c.trim_end.new.self c.magnitude_range-number.ensures.number c.trim_end.ensures
