use Rattle.std.proofs.Common.{◌≡◌, ℕ, ◌-◌, ◌<◌, ◌≤◌, get_or, length}
use Rattle.icu_decimal_direct.proofs.leading_zeros.zeros_ahead.Given as goal

abbrev pub invariant-loop-count : goal.invariant-loop-count
invariant-loop-count l = record {
  within : l.count ≤ length l.digits;
  zeros : (k : ℕ) → k < l.count → get_or l.digits k 0 ≡ 48;
}

abbrev pub decreases-loop-count : goal.decreases-loop-count
decreases-loop-count l = length l.digits - l.count
