use Rattle.std.proofs.Common.{◌≡◌, ◌-◌, ◌≤◌, ◌++◌, length, map, take, drop}
use Rattle.fixed_decimal_unsigned.specs.NumberText.{character}
use Rattle.fixed_decimal_unsigned.proofs.writing.characters_of.Given as goal

abbrev pub invariant-loop-index : goal.invariant-loop-index
invariant-loop-index l = record {
  index : l.index ≤ 16;
  size : length l.text ≡ 16;
  text : take l.index l.text ++ map character (drop l.index l.digits) ≡ map character l.digits;
}

abbrev pub decreases-loop-index : goal.decreases-loop-index
decreases-loop-index l = 16 - l.index
