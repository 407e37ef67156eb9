use Rattle.writeable.specs.Taking.{begun_first, on_err}
use Rattle.icu_locale_core_keywords_fields.proofs.entries_writing.write_map.Goals as goal

pub returns-in_err-write_entry-clause-begun : goal.returns-in_err-write_entry-clause-begun
returns-in_err-write_entry-clause-begun g c =
    on_err c.from_residual.result (begun_first g.S.Sink.takes g.S.Sink.lacks_room g.met.S.Sink.lacks_more _ _ _ _ c.in_err-write_entry.ensures.begun)

pub returns-clause-begun : goal.returns-clause-begun
returns-clause-begun g c =
    let first = c.in_ok-write_entry.ensures in
    g.met.S.Sink.stops_in_second c.write_entries.result _ _ _ _ _ first.ok first.refused c.write_entries.ensures.begun
