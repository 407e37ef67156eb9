use Rattle.std.proofs.Common.{length}
use Rattle.icu_locale_core_langid.proofs.SteppingLemmas.{TookAfter}
use Rattle.icu_locale_core_langid.proofs.parser.put_pieces.Given as goal

abbrev pub invariant-loop-piece : goal.invariant-loop-piece
invariant-loop-piece l = TookAfter l.fn.id l.fn.from l.id l.rest

abbrev pub decreases-loop-piece : goal.decreases-loop-piece
decreases-loop-piece l = length l.rest
