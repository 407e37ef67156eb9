-- What a pointer owns is tied to no thread, where the content is not.
use Rattle.std.specs.Prelude.{Option, Some, None}
use base.Fraction.{full_share}
use base.Shift.{Keyless}
use mir.Raw.{raw}
use denote.Memory.{lone}
use denote.Param.Send.{IsSend, part_keyless}
use denote.RattleType.{RattleType}
use denote.RawPtr.{Ptr, null_ptr, block_ptr, lies_at}
use Rattle.std.proofs.Crossing as crossing
use Rattle.legumeyet_c.specs.Owned.{owned}

-- a value in memory
value_keyless : (R : RattleType) → IsSend R → (at : Ptr) (x : R.Denot) → Keyless (lies_at R full_share at x)
value_keyless R sent null_ptr x = tt
value_keyless R sent (block_ptr b o) x = part_keyless R sent full_share x b o

-- and the right to free its block
pub owned_keyless : (R : RattleType) → IsSend R → (at : Ptr) (value : Option R.Denot) → Keyless (owned R at value)
owned_keyless R sent at None = tt
owned_keyless R sent at (Some x) = λ heap. (value_keyless R sent at x, crossing.frees.frees heap (raw (lone R.mir)) at)
