use Rattle.std.proofs.Common.{length, ◌-◌, ◌≡◌, ◌≤◌, ◌++◌, take, drop}
use Rattle.fixed_decimal_digit_words.specs.Packed.{shifted}
use Rattle.fixed_decimal_digits.proofs.digit_bytes.shift_bytes.Given as goal

abbrev pub invariant-loop-index : goal.invariant-loop-index
invariant-loop-index l = record { within : l.index ≤ length l.bytes; moved : take l.index l.bytes ++ shifted (drop l.index l.bytes) ≡ shifted l.initial.bytes }

abbrev pub decreases-loop-index : goal.decreases-loop-index
decreases-loop-index l = length l.bytes - l.index
