use Rattle.locale_numbers_formats.proofs.CuttingLemmas.{first_found}
use Rattle.locale_numbers_formats.proofs.cutting.first_separator.Goals as goal

pub returns : goal.returns
returns c = first_found _ _ _ c.memchr.ensures
