use Rattle.locale_numbers_formats.proofs.OlderLemmas.{older_stays}
use Rattle.locale_numbers_formats.proofs.laws.older_options_make_the_same.Goals as goal

pub returns : goal.returns
returns c = older_stays
