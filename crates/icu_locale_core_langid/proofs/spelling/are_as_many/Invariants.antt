use Rattle.std.proofs.Common.{◌≡◌, length}
use Rattle.std.specs.Prelude.{◌==◌}
use Rattle.icu_locale_core_langid.proofs.spelling.are_as_many.Given as goal

abbrev pub invariant-loop-piece : goal.invariant-loop-piece
invariant-loop-piece l = (length l._piece-iterator == l.left) ≡ (length l.fn.pieces == l.fn.count)
