use Rattle.locale_numbers_formats.proofs.EitherLemmas.{more_is_finer, less_is_coarser}
use Rattle.locale_numbers_formats.proofs.laws.either_goes_to_the_finer_or_the_coarser.Goals as goal

pub returns-clause-more : goal.returns-clause-more
returns-clause-more c = more_is_finer

pub returns-clause-less : goal.returns-clause-less
returns-clause-less c = less_is_coarser
