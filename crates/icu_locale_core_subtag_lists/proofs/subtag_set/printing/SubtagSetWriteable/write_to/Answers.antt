use Rattle.icu_locale_core_subtag_lists.proofs.PrintingLemmas.{set_events, no_set_events}
use Rattle.icu_locale_core_subtag_lists.proofs.subtag_set.printing.SubtagSetWriteable.write_to.Goals as goal

pub returns-in-Some-clause-ok : goal.returns-in-Some-clause-ok
returns-in-Some-clause-ok g c = rw (set_events _ _ _ _ c.as_slice.ensures.value c.in-Some.ensures.cases.0) c.write_joined.ensures.ok

pub returns-in-Some-clause-begun : goal.returns-in-Some-clause-begun
returns-in-Some-clause-begun g c = rw (set_events _ _ _ _ c.as_slice.ensures.value c.in-Some.ensures.cases.0) c.write_joined.ensures.begun

pub returns-in-None-clause-ok : goal.returns-in-None-clause-ok
returns-in-None-clause-ok g c = rw (no_set_events _ _ c.as_slice.ensures.value c.in-None.ensures.cases) (g.met.S.Sink.nothing c.args.sink.now)
