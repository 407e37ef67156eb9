use Rattle.std.proofs.Common.{length}
use Rattle.icu_decimal_reading.proofs.likely_bytes.push_threes.Given as goal

abbrev pub decreases-loop-left : goal.decreases-loop-left
decreases-loop-left l = length l.left
