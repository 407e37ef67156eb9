use Rattle.std.proofs.Common.{◌≡◌, drop}
use Rattle.icu_plurals.specs.Ranges.{range_category}
use Rattle.icu_plurals.proofs.ranges.range_category.Given as goal

abbrev pub invariant-loop-range : goal.invariant-loop-range
invariant-loop-range l = range_category (drop l.range-index l.ranges) l.start l.end ≡ range_category l.ranges l.start l.end
