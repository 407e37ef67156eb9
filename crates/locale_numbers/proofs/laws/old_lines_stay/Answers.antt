use Rattle.locale_numbers.proofs.OldLinesLemmas.{stay}
use Rattle.locale_numbers.proofs.laws.old_lines_stay.Goals as goal

pub returns : goal.returns
returns c = stay c.old_requests_stay.ensures
