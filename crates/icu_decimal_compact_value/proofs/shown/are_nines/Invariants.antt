use Rattle.std.proofs.Common.{◌≡◌, ℕ, ◌<◌, ◌≤◌}
use Rattle.fixed_decimal.specs.Number.{digit}
use Rattle.icu_decimal_compact_value.proofs.shown.are_nines.Given as goal

abbrev pub invariant-loop-place : goal.invariant-loop-place
invariant-loop-place l = (j : ℕ) → l.from ≤ j → j < l.place → digit l.number.count j ≡ 9
