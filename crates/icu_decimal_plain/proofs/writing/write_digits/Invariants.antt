use Rattle.std.proofs.Common.{◌≡◌, ◌≤◌, drop, map, take}
use Rattle.std.specs.Int.Digits.{AllBelowBase}
use Rattle.writeable.specs.Taking.{IsWriting}
use Rattle.icu_decimal_plain.specs.PlainText.{chained, digit_events}
use Rattle.icu_decimal_plain.proofs.writing.write_digits.Given as goal

abbrev pub invariant-loop-left : goal.invariant-loop-left
invariant-loop-left g l = record {
  left : l.left ≤ l.count;
  tens : AllBelowBase 10 l.digits;
  digits : drop l.left l.digits ≡ drop l.count l.initial.digits;
  writing : IsWriting g.S.Sink.takes g.S.Sink.refused l.initial.sink (chained (map (digit_events l.table.chars.now) (take l.count l.initial.digits))) l.sink (chained (map (digit_events l.table.chars.now) (take l.left l.digits)));
}

abbrev pub decreases-loop-left : goal.decreases-loop-left
decreases-loop-left g l = l.left
