use Rattle.locale_numbers_lines.proofs.LinesLemmas.{output_of-joined}
use Rattle.locale_numbers_lines.proofs.laws.outputs_join.Goals as goal

pub returns : goal.returns
returns c = output_of-joined
