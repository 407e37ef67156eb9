use Rattle.std.proofs.Common.{◌≡◌, ◌+◌, ◌*◌, ◌≤◌, ◌++◌, drop, length, map, take}
use Rattle.std.specs.Int.Digits.{AllBelowBase}
use Rattle.icu_decimal_plain.specs.PlainText.{chained, digit_text}
use Rattle.icu_decimal_plain.proofs.short_text.ShortText.push_digits.Given as goal

abbrev pub invariant-loop-left : goal.invariant-loop-left
invariant-loop-left l = record {
  left : l.left ≤ l.count;
  tens : AllBelowBase 10 l.digits;
  digits : drop l.left l.digits ≡ drop l.count l.initial.digits;
  text : l.self ++ chained (map (digit_text l.table.chars.now) (take l.left l.digits)) ≡ l.initial.self ++ chained (map (digit_text l.table.chars.now) (take l.count l.initial.digits));
  room : length l.self + 4 * l.left ≤ 256;
}

abbrev pub decreases-loop-left : goal.decreases-loop-left
decreases-loop-left l = l.left
