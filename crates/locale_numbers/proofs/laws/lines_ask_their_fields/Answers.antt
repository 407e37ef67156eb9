use Rattle.locale_numbers.proofs.FieldLines.{lines_ask}
use Rattle.locale_numbers.proofs.laws.lines_ask_their_fields.Goals as goal

pub returns : goal.returns
returns c = lines_ask
