use Rattle.icu_locale_core_grammar.specs.Pieces.{pieces}
use Rattle.icu_locale_core_subtag_lists.specs.Reading.{IsReadingSet}
use Rattle.icu_locale_core_subtag_lists.proofs.attributes.SubtagSet+AttributeRule.try_from_utf8.Given as goal

abbrev pub invariant-loop-piece : goal.invariant-loop-piece
invariant-loop-piece l = IsReadingSet (pieces l.code_units) l.piece-iterator l.attributes
