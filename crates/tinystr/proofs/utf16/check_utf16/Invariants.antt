use Rattle.std.proofs.Common.{take}
use Rattle.tinystr.specs.Faults.{IsFaultless}
use Rattle.tinystr.proofs.utf16.check_utf16.Given as goal

abbrev pub invariant-loop-unit : goal.invariant-loop-unit
invariant-loop-unit l = IsFaultless l.nul_seen (take l.unit-index l.units)
