-- The line feed that ends a line of standard input.
-- Defined in docs/command.md, "Options".
-- Cited by `feed_place` and `before_feed`.
use Rattle.std.specs.Prelude.{ℕ, ◌==◌, Bool}

abbrev pub is_feed : ℕ → Bool
is_feed byte = byte == 10
