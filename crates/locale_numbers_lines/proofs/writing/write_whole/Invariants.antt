use Rattle.std.proofs.Common.{◌≡◌, false, ℕ, List, ◌++◌, length}
use Rattle.std.specs.Io.KnownBytes.{Appends}
use Rattle.locale_numbers_lines.proofs.writing.write_whole.Given as goal

-- what is gone from the bytes was written
abbrev pub invariant-write : goal.invariant-write
invariant-write g l = record {
  sent : List ℕ;
  whole : l.initial.rest ≡ sent ++ l.rest;
  wrote : Appends (g.W.ByteWriter.contents l.initial.writer) (g.W.ByteWriter.contents l.writer) sent;
  well : g.W.ByteWriter.failed l.writer ≡ false;
}

abbrev pub decreases-write : goal.decreases-write
decreases-write g l = length l.rest
