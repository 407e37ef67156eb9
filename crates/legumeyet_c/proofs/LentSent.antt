-- What is lent is tied to no thread, where a `&` to it is not.
use mathlib.Core.List.{[]}
use Rattle.std.specs.Prelude.{Option, Some, None}
use base.Shift.{Keyless}
use denote.Param.Send.{IsSync}
use denote.RattleType.{RattleType}
use denote.RawPtr.{Ptr, null_ptr, block_ptr}
use Rattle.legumeyet_c.specs.Lent.{lent}

pub lent_keyless : (R : RattleType) → IsSync R → (at : Ptr) (value : Option R.Denot) → Keyless (lent R at value)
lent_keyless R sync at None = tt
lent_keyless R sync null_ptr (Some x) = (tt, sync.shared x 0 0 [])
lent_keyless R sync (block_ptr b o) (Some x) = (tt, sync.shared x b o [])
