use Rattle.locale_numbers_formats.proofs.DigitShownLemmas.{significant_shows, finer_shows, coarser_shows}
use Rattle.locale_numbers_formats.proofs.laws.shown_values_show_themselves.Goals as goal

pub returns-clause-significant : goal.returns-clause-significant
returns-clause-significant c = significant_shows

pub returns-clause-finer : goal.returns-clause-finer
returns-clause-finer c = finer_shows

pub returns-clause-coarser : goal.returns-clause-coarser
returns-clause-coarser c = coarser_shows
