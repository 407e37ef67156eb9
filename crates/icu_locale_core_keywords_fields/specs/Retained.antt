-- What a closure leaves of a map when it is called once with each key, in order.
-- Defined in docs/tags.md, "Keywords and fields as values".
-- Cited by `retain_by_key`.
use Rattle.std.specs.Prelude.{◌≡◌, Bool, List, length, map}
use Rattle.std.specs.List.{items_where_true}
use Rattle.std.specs.List.Retain.{ReturnsInTurn}

-- `calls p k b q`: the closure as it is at p may return b at the key k, and is then q
pub record IsRetained {F X Y : Type 0} (calls : F → X → Bool → F → Type 0) (f : F) (before after : List (X × Y)) : Type 0 where
  pub answers : List Bool
  pub last : F
  pub whole : length answers ≡ length before
  pub asked : ReturnsInTurn calls f answers (map (λ e. e.0) before) last
  pub kept : after ≡ items_where_true answers before
