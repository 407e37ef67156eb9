use Rattle.locale_numbers.proofs.FoundTexts.{found_units_are_texts}
use Rattle.locale_numbers.proofs.laws.found_units_are_texts.Goals as goal

pub returns : goal.returns
returns c = found_units_are_texts c.units_are_texts.ensures.percents c.units_are_texts.ensures.amounts
