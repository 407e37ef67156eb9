use Rattle.std.proofs.Common.{◌≡◌, ◌+◌, ◌-◌, ◌<◌, length, drop}
use Rattle.icu_decimal_plurals.specs.PieceSteps.{piece_len}
use Rattle.icu_decimal_plurals.proofs.piece.piece_len.Given as goal

abbrev pub invariant-loop-last : goal.invariant-loop-last
invariant-loop-last l = (l.last + piece_len (drop l.last l.text) ≡ piece_len l.text) × (l.last < length l.text)

abbrev pub decreases-loop-last : goal.decreases-loop-last
decreases-loop-last l = length l.text - l.last
