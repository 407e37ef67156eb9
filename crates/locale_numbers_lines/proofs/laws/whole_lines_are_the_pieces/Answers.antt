use Rattle.locale_numbers_lines.proofs.LinesLemmas.{whole_lines_are}
use Rattle.locale_numbers_lines.proofs.laws.whole_lines_are_the_pieces.Goals as goal

pub returns : goal.returns
returns c = whole_lines_are
