use Rattle.std.proofs.Common.{◌≡◌, ◌-◌, ◌≤◌, ◌++◌, length, take}
use Rattle.std.specs.Int.Digits.{AllBelowBase}
use Rattle.fixed_decimal_digits.proofs.shown_digits.ShownDigits.next_few.Given as goal

abbrev pub invariant-loop-count : goal.invariant-loop-count
invariant-loop-count l = record {
  within : l.count ≤ 16;
  size : length l.block ≡ 16;
  taken : take l.count l.block ++ l.self ≡ l.initial.self;
  tens : AllBelowBase 10 l.initial.self → AllBelowBase 10 l.initial.block → AllBelowBase 10 l.block;
}

abbrev pub decreases-loop-count : goal.decreases-loop-count
decreases-loop-count l = 16 - l.count
