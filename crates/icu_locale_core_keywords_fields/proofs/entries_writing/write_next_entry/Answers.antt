use Rattle.writeable.specs.Taking.{begun_first, on_err}
use Rattle.icu_locale_core_keywords_fields.proofs.entries_writing.write_next_entry.Goals as goal

pub returns-in_err-write_char-clause-begun : goal.returns-in_err-write_char-clause-begun
unfolding lib.Utf8.encode
returns-in_err-write_char-clause-begun g c =
    on_err c.from_residual.result (begun_first g.S.Sink.takes g.S.Sink.lacks_room g.met.S.Sink.lacks_more _ _ _ _ c.in_err-write_char.ensures.begun)

pub returns-clause-begun : goal.returns-clause-begun
unfolding lib.Utf8.encode
returns-clause-begun g c =
    let first = c.in_ok-write_char.ensures in
    g.met.S.Sink.stops_in_second c.write_entry.result _ _ _ _ _ first.ok first.refused c.write_entry.ensures.begun
