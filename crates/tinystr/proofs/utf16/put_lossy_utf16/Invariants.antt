use Rattle.std.proofs.Common.{◌≡◌, ◌++◌, take, drop, map}
use Rattle.tinystr.specs.Lossy.{kept_or_replacement}
use Rattle.tinystr.proofs.utf16.put_lossy_utf16.Given as goal

abbrev pub invariant-loop-i : goal.invariant-loop-i
invariant-loop-i l = l.bytes ≡ map (kept_or_replacement l.replacement) (take l.i l.units) ++ drop l.i l.initial.bytes
