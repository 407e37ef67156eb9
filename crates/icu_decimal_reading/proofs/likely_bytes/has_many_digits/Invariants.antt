use Rattle.std.proofs.Common.{◌≤◌}
use Rattle.icu_decimal_reading.proofs.likely_bytes.has_many_digits.Given as goal

abbrev pub invariant-loop-byte : goal.invariant-loop-byte
invariant-loop-byte l = l.count ≤ l.byte-index
