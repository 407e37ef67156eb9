use Rattle.legumeyet.proofs.LinesLemmas.{before_place, before_none}
use Rattle.legumeyet.proofs.input.before_feed.Goals as goal

pub returns-in-Some : goal.returns-in-Some
returns-in-Some c = record { value = before_place c.args.line.now c.in-Some.end c.in-Some.ensures.value }

pub returns-in-None : goal.returns-in-None
returns-in-None c = record { value = before_none c.args.line.now c.in-None.ensures.value }
