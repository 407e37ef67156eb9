use Rattle.std.proofs.Common.{◌≡◌, ◌++◌, take, drop}
use Rattle.tinystr.proofs.asciibyte.to_ascii_byte_array.Given as goal

abbrev pub invariant-loop-i : goal.invariant-loop-i
invariant-loop-i g l = l.all ≡ take l.i l.bytes ++ drop l.i l.initial.all
