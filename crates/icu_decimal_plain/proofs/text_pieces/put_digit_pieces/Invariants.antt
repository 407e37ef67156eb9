use Rattle.std.proofs.Common.{◌≡◌, ◌+◌, ◌-◌, ◌*◌, ◌≤◌, ◌++◌, drop, length, map, take}
use Rattle.icu_decimal_plain.specs.PlainText.{chained, digit_text}
use Rattle.icu_decimal_plain.proofs.text_pieces.put_digit_pieces.Given as goal

abbrev pub invariant-loop-at : goal.invariant-loop-at
invariant-loop-at g l = record {
  at : l.at ≤ length l.digits;
  text : take l.len l.waiting ++ chained (map (digit_text l.table.chars.now) (drop l.at l.digits)) ≡ take l.initial.len l.initial.waiting ++ chained (map (digit_text l.table.chars.now) l.digits);
  room : l.len ≤ l.initial.len + 4 * l.at;
}

abbrev pub decreases-loop-at : goal.decreases-loop-at
decreases-loop-at g l = length l.digits - l.at
