use Rattle.std.proofs.Common.{[], ◌∷◌}
use Rattle.icu_locale_core_grammar.specs.Pieces.{pieces}
use Rattle.icu_locale_core_grammar.specs.Stepping.{InHead, headed_after}
use Rattle.icu_locale_core_keywords_fields.specs.HeadedView.{headed_view, ends_anywhere}
use Rattle.icu_locale_core_extensions.proofs.HeadedLemmas.{IsReadingAfter}
use Rattle.icu_locale_core_extensions.proofs.headed_reading.read_headed.Given as goal

abbrev pub invariant-loop-piece : goal.invariant-loop-piece
invariant-loop-piece g l =
    IsReadingAfter (l.letter ∷ []) (headed_after g.R.HeadReader.step ends_anywhere g.K.SubtagRule.accepts g.K.EntryKind.needs) (InHead l.fn.begun) (pieces l.code_units) l.piece-iterator (headed_view l.stage)
