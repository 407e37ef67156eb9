use Rattle.std.proofs.Common.{◌≡◌, ◌+◌, ◌<◌, ◌^◌, drop, length}
use Rattle.icu_locale_core_keywords_fields.specs.EntryText.{hyphened_entries}
use Rattle.icu_locale_core_keywords_fields.proofs.entries_writing.entries_length.Given as goal

abbrev pub invariant-loop-key : goal.invariant-loop-key
invariant-loop-key g l = record {
  fits : l.length < 2 ^ 64;
  rest : length (hyphened_entries g.K.EntryKind.needs l.entries) ≡ l.length + length (hyphened_entries g.K.EntryKind.needs (drop l.key-index l.entries));
}
