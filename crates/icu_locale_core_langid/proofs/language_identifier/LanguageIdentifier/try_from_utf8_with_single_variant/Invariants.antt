use Rattle.std.proofs.Common.{option_map}
use Rattle.icu_locale_core_grammar.specs.Pieces.{pieces}
use Rattle.icu_locale_core_langid.specs.OneVariant.{parts_id, one_variant_after}
use Rattle.icu_locale_core_langid.proofs.SteppingLemmas.{TookBy}
use Rattle.icu_locale_core_langid.proofs.language_identifier.LanguageIdentifier.try_from_utf8_with_single_variant.Given as goal

abbrev pub invariant-loop-piece : goal.invariant-loop-piece
invariant-loop-piece l = TookBy one_variant_after (pieces l.code_units) (option_map parts_id l.parts) l.piece-iterator
