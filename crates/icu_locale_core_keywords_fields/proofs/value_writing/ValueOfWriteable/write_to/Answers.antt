use Rattle.std.proofs.Common.{sym, ◌∙◌}
use Rattle.icu_locale_core_keywords_fields.proofs.TextLemmas.{value_written, value_unwritten}
use Rattle.icu_locale_core_keywords_fields.proofs.value_writing.ValueOfWriteable.write_to.Goals as goal

pub returns-in-Some-clause-ok : goal.returns-in-Some-clause-ok
returns-in-Some-clause-ok g c =
    let cut = c.in-Some.ensures.cases in
    let written = value_written g.K.EntryKind.needs _ _ _ _ c.as_subtags_slice.ensures.value cut.0 in
    rw written c.write_joined.ensures.ok

pub returns-in-Some-clause-begun : goal.returns-in-Some-clause-begun
returns-in-Some-clause-begun g c =
    let cut = c.in-Some.ensures.cases in
    let written = value_written g.K.EntryKind.needs _ _ _ _ c.as_subtags_slice.ensures.value cut.0 in
    rw written c.write_joined.ensures.begun

pub returns-else-needs_value-clause-ok : goal.returns-else-needs_value-clause-ok
returns-else-needs_value-clause-ok g c =
    rw (value_unwritten g.K.EntryKind.needs _ _ c.as_subtags_slice.ensures.value c.in-None.ensures.cases (sym c.needs_value.ensures ∙ c.if-needs_value.false))
    (g.met.S.Sink.nothing c.args.sink.now)
