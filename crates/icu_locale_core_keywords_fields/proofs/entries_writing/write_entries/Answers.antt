use Rattle.std.proofs.Common.{◌∷◌, ◌++◌, []}
use Rattle.writeable.specs.AnnotatedText.{bytes}
use Rattle.writeable.specs.Taking.{on_err}
use Rattle.writeable.proofs.WritingLemmas.{writing_goes_on, writing_stops, writing_ends}
use Rattle.icu_locale_core_grammar.specs.Pieces.{hyphen}
use Rattle.icu_locale_core_keywords_fields.specs.EntryText.{hyphened_value}
use Rattle.icu_locale_core_keywords_fields.proofs.TextLemmas.{next_entry_events, no_entry_events}
use Rattle.icu_locale_core_keywords_fields.proofs.entries_writing.write_entries.Goals as goal

pub loop-key-preserved : goal.loop-key-preserved
loop-key-preserved g c =
    let entry = c.loop-key-item.result in
    let next = next_entry_events g.K.EntryKind.needs c.args.entries.now c.loop-key.key-index entry c.loop-key-test.true c.loop-key-item.is in
    record {
      writing = writing_goes_on g.S.Sink.takes g.S.Sink.refused g.met.S.Sink.joins _ _ _ _ (bytes (hyphen ∷ []) ++ (bytes entry.0 ++ bytes (hyphened_value g.K.EntryKind.needs entry.1))) _
          (rw next at c.loop-key.invariant.writing) c.in_ok-write_next_entry.ensures.ok c.in_ok-write_next_entry.ensures.refused;
    }

pub returns-in_err-write_next_entry-clause-begun : goal.returns-in_err-write_next_entry-clause-begun
returns-in_err-write_next_entry-clause-begun g c =
    let entry = c.loop-key-item.result in
    let next = next_entry_events g.K.EntryKind.needs c.args.entries.now c.loop-key.key-index entry c.loop-key-test.true c.loop-key-item.is in
    on_err c.from_residual.result
    (writing_stops g.S.Sink.takes g.S.Sink.refused g.met.S.Sink.joins g.S.Sink.lacks_room g.met.S.Sink.lacks_more _ _ _ _ (bytes (hyphen ∷ []) ++ (bytes entry.0 ++ bytes (hyphened_value g.K.EntryKind.needs entry.1))) _
    (rw next at c.loop-key.invariant.writing) c.in_err-write_next_entry.ensures.begun)

pub returns-clause-ok : goal.returns-clause-ok
returns-clause-ok g c =
    writing_ends g.S.Sink.takes g.S.Sink.refused _ _ _
    (rw (no_entry_events g.K.EntryKind.needs c.args.entries.now c.loop-key.key-index c.loop-key-test.false) at c.loop-key.invariant.writing)
