use Rattle.std.proofs.Common.{◌≡◌, length}
use Rattle.icu_decimal_reading.specs.Readable.{all_differ}
use Rattle.icu_decimal_reading.proofs.digits.do_all_differ.Given as goal

abbrev pub invariant-loop-first : goal.invariant-loop-first
invariant-loop-first l = all_differ l.left ≡ all_differ l.table

abbrev pub decreases-loop-first : goal.decreases-loop-first
decreases-loop-first l = length l.left
