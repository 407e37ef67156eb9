use Rattle.icu_locale_core_keywords_fields.proofs.TextLemmas.{map_written, map_unwritten}
use Rattle.icu_locale_core_keywords_fields.proofs.entries_writing.EntriesOfWriteable.write_to.Goals as goal

pub returns-in-Some-clause-ok : goal.returns-in-Some-clause-ok
returns-in-Some-clause-ok g c =
    let cut = c.in-Some.ensures.cases in
    let written = map_written g.K.EntryKind.needs _ _ _ _ c.as_slice.ensures.value cut.0 in
    rw written c.write_map.ensures.ok

pub returns-in-Some-clause-begun : goal.returns-in-Some-clause-begun
returns-in-Some-clause-begun g c =
    let cut = c.in-Some.ensures.cases in
    let written = map_written g.K.EntryKind.needs _ _ _ _ c.as_slice.ensures.value cut.0 in
    rw written c.write_map.ensures.begun

pub returns-in-None-clause-ok : goal.returns-in-None-clause-ok
returns-in-None-clause-ok g c = rw (map_unwritten g.K.EntryKind.needs _ _ c.as_slice.ensures.value c.in-None.ensures.cases) (g.met.S.Sink.nothing c.args.sink.now)
