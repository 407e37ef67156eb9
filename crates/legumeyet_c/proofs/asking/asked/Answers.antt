use Rattle.legumeyet_c.specs.Kinds.{format_in}
use Rattle.legumeyet_c.specs.Opened.{opened}
use Rattle.legumeyet_c.proofs.AskedLemmas.{asked_open}
use Rattle.legumeyet_c.proofs.asking.asked.Goals as goal

pub returns-in-Some : goal.returns-in-Some
returns-in-Some c = asked_open (format_in (opened c.args.content)) c.in-Some.held.now c.args.words.now c.asked_in.result c.in-Some.ensures c.asked_in.ensures
