use Rattle.std.proofs.Common.{◌≡◌, ◌+◌, ◌-◌, ◌<◌, ◌≤◌, ◌%◌, ◌++◌, length, map, take}
use Rattle.std.specs.Int.Digits.{AllBelowBase}
use Rattle.fixed_decimal_unsigned.specs.Number.{digits_down}
use Rattle.fixed_decimal_unsigned.specs.NumberText.{character}
use Rattle.fixed_decimal_unsigned.proofs.writing.spell.Given as goal

abbrev pub invariant-loop-done : goal.invariant-loop-done
invariant-loop-done l = record {
  done : l.done ≤ l.size;
  room : length l.piece ≡ 64;
  left : length l.digits ≡ l.size - l.done;
  blocks : l.done < l.size → l.done % 16 ≡ 0;
  tens : AllBelowBase 10 l.digits;
  spelled : take (l.from + l.done) l.piece ++ map character l.digits ≡ take l.from l.initial.piece ++ map character (digits_down l.number.count l.base l.size);
}

abbrev pub decreases-loop-done : goal.decreases-loop-done
decreases-loop-done l = l.size - l.done
