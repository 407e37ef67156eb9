use Rattle.std.proofs.Common.{◌-◌, ◌≤◌, length}
use Rattle.icu_decimal_reading.proofs.likely_bytes.whole_len.Given as goal

abbrev pub invariant-loop-len : goal.invariant-loop-len
invariant-loop-len l = l.len ≤ length l.text

abbrev pub decreases-loop-len : goal.decreases-loop-len
decreases-loop-len l = length l.text - l.len
