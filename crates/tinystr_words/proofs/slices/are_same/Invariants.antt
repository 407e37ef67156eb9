use Rattle.std.proofs.Common.{◌≡◌, ℕ, Bool, true, List, length}
use Rattle.tinystr_words.proofs.slices.are_same.Given as goal

-- what is left is the same, and so was all before it, exactly where the whole is
pub record Left (one other left right : List ℕ) (same : Bool) : Type 0 where
  pub long : length left ≡ length right
  pub whole : same ≡ true → left ≡ right → one ≡ other
  pub parts : one ≡ other → same ≡ true × left ≡ right

abbrev pub invariant-loop-left : goal.invariant-loop-left
invariant-loop-left l = Left l.one l.other l.left l.right l.same

abbrev pub decreases-loop-left : goal.decreases-loop-left
decreases-loop-left l = length l.left
