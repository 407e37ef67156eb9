use Rattle.std.proofs.Common.{◌≡◌, ℕ, ◌+◌, ◌-◌, ◌<◌, ◌≤◌, slice_index}
use Rattle.icu_decimal_plain.proofs.runs.run_of.Given as goal

abbrev pub invariant-loop-digit : goal.invariant-loop-digit
invariant-loop-digit l = record {
  digit : l.digit ≤ 10;
  held : (d : ℕ) → d < l.digit → slice_index l.table d ≡ l.nought + d;
}

abbrev pub decreases-loop-digit : goal.decreases-loop-digit
decreases-loop-digit l = 10 - l.digit
