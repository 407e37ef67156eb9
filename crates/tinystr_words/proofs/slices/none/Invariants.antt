use Rattle.std.proofs.Common.{◌≡◌, not, length}
use Rattle.std.specs.List.{list_all}
use Rattle.std.specs.Str.{IsAscii}
use Rattle.tinystr_words.proofs.slices.none.Given as goal

abbrev pub decreases-loop-rest : goal.decreases-loop-rest
decreases-loop-rest g l = length l.rest

abbrev pub invariant-loop-rest : goal.invariant-loop-rest
invariant-loop-rest g l = IsAscii l.rest × (list_all (λ b. not (g.C.WordClass.test b)) l.rest ≡ list_all (λ b. not (g.C.WordClass.test b)) l.bytes)
