use Rattle.std.proofs.Common.{◌≡◌, ◌+◌, ◌-◌, ◌%◌, ◌<◌, drop, length, min, take}
use Rattle.icu_decimal_plain.proofs.digit_chunks.few_digits.Given as goal

abbrev pub invariant-loop-at : goal.invariant-loop-at
invariant-loop-at l = record {
  even : l.at % 16 ≡ 0;
  within : l.at < l.count + 16;
  long : length l.chunk ≡ 48;
  digits : l.digits ≡ drop l.at l.initial.digits;
  chunk : take (min l.at (length l.initial.digits)) l.chunk ≡ take (min l.at (length l.initial.digits)) l.initial.digits;
}

abbrev pub decreases-loop-at : goal.decreases-loop-at
decreases-loop-at l = l.count - l.at
