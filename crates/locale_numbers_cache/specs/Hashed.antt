-- The hash that is kept beside a value.
-- Defined in docs/requests.md, "What a cache keeps".
-- Cited by `Hashed`.
use Rattle.std.specs.Prelude.{ℕ, List}
use Rattle.std.specs.List.{fold}
use Rattle.std.specs.Hash.FoldHasher.{finish, initial, write}

-- what a `FoldHasher` makes of these writes
abbrev pub hash_by : List (List ℕ) → ℕ
hash_by writes = finish (fold write initial writes)
