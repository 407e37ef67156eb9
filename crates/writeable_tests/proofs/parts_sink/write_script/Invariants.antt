use Rattle.std.proofs.Common.{◌≡◌, false}
use Rattle.writeable_tests.proofs.parts_sink.write_script.Given as goal

abbrev pub invariant-loop-character : goal.invariant-loop-character
invariant-loop-character g l = g.S.Sink.refused l.sink ≡ false
