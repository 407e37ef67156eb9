use Rattle.std.proofs.Common.{◌≡◌, length, take, drop, map}
use Rattle.legumeyet_c_values.specs.Parts.{listed_as}
use Rattle.legumeyet_c_values.proofs.intervals.list_parts.Given as goal

abbrev pub invariant-loop-index : goal.invariant-loop-index
invariant-loop-index l = record {
  same : length l.intervals ≡ length l.initial.intervals;
  front : take l.index l.intervals ≡ take l.index (map listed_as l.parts);
  behind : drop l.index l.intervals ≡ drop l.index l.initial.intervals;
}
