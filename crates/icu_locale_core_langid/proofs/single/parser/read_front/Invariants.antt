use Rattle.std.proofs.Common.{option_map}
use Rattle.icu_locale_core_langid.specs.OneVariant.{parts_id, one_variant_after}
use Rattle.icu_locale_core_langid.proofs.SteppingLemmas.{TookBy}
use Rattle.icu_locale_core_langid.proofs.single.parser.read_front.Given as goal

abbrev pub invariant-loop-piece : goal.invariant-loop-piece
invariant-loop-piece l = TookBy one_variant_after l.fn.from (option_map parts_id l.parts) l.piece-iterator
