use Rattle.std.proofs.Common.{◌≡◌, ◌++◌, take, drop}
use Rattle.tinystr.proofs.utf16.narrow.Given as goal

abbrev pub invariant-loop-i : goal.invariant-loop-i
invariant-loop-i l = l.bytes ≡ take l.i l.units ++ drop l.i l.initial.bytes
