use Rattle.std.proofs.Common.{◌≡◌, ◌+◌, ℕ, List, true, length}
use Rattle.std.specs.Str.{IsAscii}
use Rattle.tinystr_words.specs.Words.{nuls_last, text_bytes}
use Rattle.tinystr_words.proofs.slices.text_len.Given as goal

-- what is counted, and what is left to count
pub record Left (bytes rest : List ℕ) (len : ℕ) : Type 0 where
  pub ascii : IsAscii rest
  pub last : nuls_last rest ≡ true
  pub count : len + text_bytes rest ≡ text_bytes bytes

abbrev pub invariant-loop-rest : goal.invariant-loop-rest
invariant-loop-rest l = Left l.bytes l.rest l.len

abbrev pub decreases-loop-rest : goal.decreases-loop-rest
decreases-loop-rest l = length l.rest
