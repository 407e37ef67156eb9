use Rattle.std.proofs.Common.{◌≡◌, length}
use Rattle.std.specs.List.{list_all}
use Rattle.std.specs.Str.{IsAscii}
use Rattle.tinystr_words.specs.Words.{or_nul}
use Rattle.tinystr_words.proofs.slices.all.Given as goal

abbrev pub decreases-loop-rest : goal.decreases-loop-rest
decreases-loop-rest g l = length l.rest

abbrev pub invariant-loop-rest : goal.invariant-loop-rest
invariant-loop-rest g l = IsAscii l.rest × (list_all (or_nul g.C.WordClass.test) l.rest ≡ list_all (or_nul g.C.WordClass.test) l.bytes)
