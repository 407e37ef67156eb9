use Rattle.icu_locale_core_grammar.specs.PartReaders.{listed, entries_after}
use Rattle.icu_locale_core_grammar.specs.Stepping.{InHead}
use Rattle.icu_locale_core_keywords_fields.specs.HeadedView.{headed_view}
use Rattle.icu_locale_core_keywords_fields.proofs.ReadingLemmas.{IsReading}
use Rattle.icu_locale_core_keywords_fields.proofs.entries.EntriesOf.try_from_utf8.Given as goal

abbrev pub invariant-loop-piece : goal.invariant-loop-piece
invariant-loop-piece g l = IsReading (entries_after g.K.SubtagRule.accepts g.K.EntryKind.needs) (InHead tt) (listed l.fn.code_units) l.piece-iterator (headed_view l.stage)
