-- What a pointer to a content that stays for the rest of the run shows: what a `&'static` to it shows, or nothing while it is closed.
-- Defined in docs/c-api.md, "Shared formatters".
-- Cited by the model of `SharedPointer`.
use mathlib.Core.List.{[]}
use Rattle.std.specs.Prelude.{Option, Some, None}
use base.Fml.{Fml, ftrue}
use denote.RattleType.{RattleType}
use denote.RawPtr.{Ptr}
use denote.Struct.Lending.{lent_at}

-- to as many readers as there are
abbrev pub lent : (R : RattleType) → Ptr → Option R.Denot → Fml
lent R at None = ftrue
lent R at (Some content) = lent_at R at content []
