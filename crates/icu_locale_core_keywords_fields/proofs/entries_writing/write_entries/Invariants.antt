use Rattle.std.proofs.Common.{drop}
use Rattle.writeable.specs.AnnotatedText.{bytes}
use Rattle.writeable.specs.Taking.{IsWriting}
use Rattle.icu_locale_core_keywords_fields.specs.EntryText.{hyphened_entries}
use Rattle.icu_locale_core_keywords_fields.proofs.entries_writing.write_entries.Given as goal

abbrev pub invariant-loop-key : goal.invariant-loop-key
invariant-loop-key g l = record {
  writing : IsWriting g.S.Sink.takes g.S.Sink.refused l.initial.sink (bytes (hyphened_entries g.K.EntryKind.needs l.entries)) l.sink (bytes (hyphened_entries g.K.EntryKind.needs (drop l.key-index l.entries)));
}
