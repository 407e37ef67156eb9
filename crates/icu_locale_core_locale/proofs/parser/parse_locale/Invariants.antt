use Rattle.icu_locale_core_grammar.specs.Pieces.{pieces}
use Rattle.icu_locale_core_grammar.specs.TagStages.{tag_after, tag_start}
use Rattle.icu_locale_core_keywords_fields.proofs.ReadingLemmas.{IsReading}
use Rattle.icu_locale_core_locale.specs.StageView.{stage_view}
use Rattle.icu_locale_core_locale.proofs.parser.parse_locale.Given as goal

abbrev pub invariant-loop-piece : goal.invariant-loop-piece
invariant-loop-piece l = IsReading tag_after tag_start (pieces l.code_units) l.piece-iterator (stage_view l.stage)
