use Rattle.locale_numbers_lines.proofs.LinesLemmas.{lines_are}
use Rattle.locale_numbers_lines.proofs.laws.lines_are_the_pieces.Goals as goal

pub returns : goal.returns
returns c = lines_are
