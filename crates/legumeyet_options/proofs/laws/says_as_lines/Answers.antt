use Rattle.legumeyet_options.proofs.SayingLawsLemmas.{as_lines}
use Rattle.legumeyet_options.proofs.laws.says_as_lines.Goals as goal

pub returns : goal.returns
returns c = as_lines c.format_is_text.ensures.number c.format_is_text.ensures.exact
