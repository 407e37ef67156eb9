use Rattle.legumeyet_c.specs.Kinds.{format_in}
use Rattle.legumeyet_c.specs.Opened.{opened}
use Rattle.legumeyet_c.proofs.TellingLemmas.{fact_closed, fact_open, fact_unknown}
use Rattle.legumeyet_c.proofs.telling.write_fact.Goals as goal

pub returns-in_default : goal.returns-in_default
returns-in_default c = fact_closed (format_in (opened c.args.content)) c.args.fact _ _ c.in_default.ensures

pub returns-in-Some-fact_by : goal.returns-in-Some-fact_by
returns-in-Some-fact_by c =
    fact_open (format_in (opened c.args.content)) c.in-Some.held.now c.lent.result c.args.fact c.in-Some-fact_by.fact _ _ _ _ _ c.in-Some.ensures c.lent.ensures c.in-Some-fact_by.ensures
    c.put_fact_of.ensures

pub returns-in-None : goal.returns-in-None
returns-in-None c = fact_unknown (format_in (opened c.args.content)) c.in-Some.held.now c.args.fact _ _ c.in-Some.ensures c.in-None.ensures
