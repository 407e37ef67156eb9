-- What an answerer may leave of an answer that it could not finish: a text that begins as it did.
-- Defined in docs/requests.md, "What a run leaves".
-- Cited by `Answerer::answer_onto`.
use Rattle.std.specs.Prelude.{ℕ, ◌≡◌, List, ◌++◌}

-- the old bytes stay in front of what is there now
pub record Grows (old new : List ℕ) : Type 0 where
  pub more : List ℕ
  pub grew : new ≡ old ++ more
