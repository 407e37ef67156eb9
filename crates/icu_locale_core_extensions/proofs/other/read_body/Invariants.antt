use Rattle.std.proofs.Common.{◌≡◌, []}
use Rattle.icu_locale_core_grammar.specs.TagStages.{other_after}
use Rattle.icu_locale_core_keywords_fields.proofs.ReadingLemmas.{IsReading}
use Rattle.icu_locale_core_extensions.proofs.other.read_body.Given as goal

abbrev pub invariant-loop-piece : goal.invariant-loop-piece
invariant-loop-piece l = IsReading other_after [] l.fn.body l.piece-iterator l.other.1 × (l.fn.singleton ≡ l.other.0)
