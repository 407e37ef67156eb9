use Rattle.locale_numbers.proofs.FrontLemmas.{line_asked}
use Rattle.locale_numbers.proofs.front.cut_text.Goals as goal

pub returns-clause-asks : goal.returns-clause-asks
returns-clause-asks c = line_asked c.args.line.now c.cut_last.result.0.now c.cut_last.result.1.now c.cut_last.ensures
