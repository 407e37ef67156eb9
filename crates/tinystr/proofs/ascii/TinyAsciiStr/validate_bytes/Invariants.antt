use Rattle.std.proofs.Common.{◌≡◌, ℕ, ◌%◌, List, length}
use Rattle.tinystr.specs.Forms.{AreForms}
use Rattle.tinystr.proofs.ascii.TinyAsciiStr.validate_bytes.Given as goal

-- the bytes are forms exactly where those that are left are
pub record Left (n : ℕ) (all rest : List ℕ) : Type 0 where
  pub whole : length rest % n ≡ 0
  pub back : AreForms n rest → AreForms n all
  pub on : AreForms n all → AreForms n rest

abbrev pub invariant-loop-rest : goal.invariant-loop-rest
invariant-loop-rest g l = Left g.row.N l.fn.bytes l.rest

abbrev pub decreases-loop-rest : goal.decreases-loop-rest
decreases-loop-rest g l = length l.rest
