use Rattle.locale_numbers_formats.proofs.DigitOrderLemmas.{significant_keeps, place_keeps, finer_keeps, coarser_keeps}
use Rattle.locale_numbers_formats.proofs.laws.choices_keep_the_order.Goals as goal

pub returns-clause-significant : goal.returns-clause-significant
returns-clause-significant c = significant_keeps

pub returns-clause-to_place : goal.returns-clause-to_place
returns-clause-to_place c = place_keeps

pub returns-clause-finer : goal.returns-clause-finer
returns-clause-finer c = finer_keeps

pub returns-clause-coarser : goal.returns-clause-coarser
returns-clause-coarser c = coarser_keeps
