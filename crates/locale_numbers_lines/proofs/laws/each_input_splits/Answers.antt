use Rattle.locale_numbers_lines.proofs.LinesLemmas.{splits_of}
use Rattle.locale_numbers_lines.proofs.laws.each_input_splits.Goals as goal

pub returns : goal.returns
returns c = splits_of
