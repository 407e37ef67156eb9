use Rattle.std.proofs.Common.{ℕ, List, Option}
use Rattle.std.specs.List.{flat_map}
use Rattle.std.specs.Io.KnownBytes.{Appends}
use Rattle.legumeyet.specs.Parts.{part_line, part_lines}
use Rattle.legumeyet.proofs.parts.put_held.Given as goal

-- once the lines of the parts that are left are written, those of all parts are
abbrev pub invariant-loop-part : goal.invariant-loop-part
invariant-loop-part g l = (end : Option (List ℕ))
    → Appends (g.W.Write.contents l.out) end (flat_map part_line l.part-iterator)
    → Appends (g.W.Write.contents l.initial.out) end (part_lines l.sink.held)
