use Rattle.std.proofs.Common.{[]}
use Rattle.icu_locale_core_grammar.specs.PartReaders.{listed, value_after}
use Rattle.icu_locale_core_keywords_fields.proofs.ReadingLemmas.{IsReading}
use Rattle.icu_locale_core_keywords_fields.proofs.value.ValueOf.try_from_utf8.Given as goal

abbrev pub invariant-loop-piece : goal.invariant-loop-piece
invariant-loop-piece g l = IsReading value_after [] (listed l.fn.code_units) l.piece-iterator l.value
