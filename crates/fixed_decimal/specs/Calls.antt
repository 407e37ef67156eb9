-- What a list of calls makes of a decimal: each call's own definition, one after the other.
-- Defined in docs/numbers.md, "Runs of calls".
-- Cited by `run_calls`, and by the law that a run has one end.
use Rattle.std.specs.Prelude.{◌≡◌, ℕ, ◌==◌, ◌⊎◌, List, [], ◌∷◌}
use Rattle.fixed_decimal_signed.specs.Number.{Number, place}
use Rattle.fixed_decimal_signed.specs.RoundingMemory.{MayGrow}
use Rattle.fixed_decimal_signed.specs.Shifts.{Shifts, TrimsStart, TrimsEnd, TrimsWhole, PadsStart, PadsEnd, Cuts}
use Rattle.fixed_decimal_signed.specs.SignChoice.{chosen_sign}
use Rattle.fixed_decimal_signed.specs.SignedRounding.{RoundsSigned, size_mode}
use Rattle.fixed_decimal_signed.specs.SignedText.{ReadsSigned}
use Rattle.fixed_decimal_signed.specs.SignedValue.{SignedValue, OnAbsolute}
use Rattle.fixed_decimal.specs.declared.call.Call.{Call}
use Rattle.fixed_decimal.specs.declared.call.Call.TheVariants.{MultiplyPow10, TrimStart, TrimEnd, TrimEndIfInteger, PadStart, PadEnd, SetMaxPosition, Round, SetSign, ApplySignDisplay}

-- one call makes the new decimal of the old one
abbrev pub Makes : Call → SignedValue Number → SignedValue Number → Type 0
Makes (MultiplyPow10 delta) old new = OnAbsolute (Shifts delta) old new
Makes TrimStart old new = OnAbsolute TrimsStart old new
Makes TrimEnd old new = OnAbsolute TrimsEnd old new
Makes TrimEndIfInteger old new = OnAbsolute TrimsWhole old new
Makes (PadStart position) old new = OnAbsolute (PadsStart (place position)) old new
Makes (PadEnd position) old new = OnAbsolute (PadsEnd (place position)) old new
Makes (SetMaxPosition position) old new = OnAbsolute (Cuts (place position)) old new
Makes (Round position mode increment) old new = RoundsSigned mode increment (place position) old new
Makes (SetSign sign) old new = new ≡ record { sign = sign; absolute = old.absolute }
Makes (ApplySignDisplay choice) old new = new ≡ record { sign = chosen_sign choice old.sign (old.absolute.count == 0); absolute = old.absolute }

-- the calls make the new decimal of the old one, each of what the one before it left
abbrev pub Run : List Call → SignedValue Number → SignedValue Number → Type 0
Run [] old new = new ≡ old
Run (call ∷ calls) old new = (next : SignedValue Number) × (Makes call old next × Run calls next new)

-- the calls make the decimal of the one that the text spells
pub record RunsFrom (text : List ℕ) (calls : List Call) (new : SignedValue Number) : Type 0 where
  pub read : SignedValue Number
  pub reads : ReadsSigned text read
  pub run : Run calls read new

-- the call is a rounding that may allocate, on this decimal; no other call allocates
abbrev pub MayGrowBy : Call → SignedValue Number → Type 0
MayGrowBy (Round position mode increment) old = MayGrow (size_mode old.sign mode) increment (place position) old.absolute.count
MayGrowBy (MultiplyPow10 delta) old = ⊥
MayGrowBy TrimStart old = ⊥
MayGrowBy TrimEnd old = ⊥
MayGrowBy TrimEndIfInteger old = ⊥
MayGrowBy (PadStart position) old = ⊥
MayGrowBy (PadEnd position) old = ⊥
MayGrowBy (SetMaxPosition position) old = ⊥
MayGrowBy (SetSign sign) old = ⊥
MayGrowBy (ApplySignDisplay choice) old = ⊥

-- one of the calls may allocate, on what those before it left
abbrev pub MayGrowIn : List Call → SignedValue Number → Type 0
MayGrowIn [] old = ⊥
MayGrowIn (call ∷ calls) old = MayGrowBy call old ⊎ ((next : SignedValue Number) × (Makes call old next × MayGrowIn calls next))

-- the text spells a decimal on which the calls may allocate
pub record RunsLong (text : List ℕ) (calls : List Call) : Type 0 where
  pub read : SignedValue Number
  pub reads : ReadsSigned text read
  pub grows : MayGrowIn calls read

-- a text and a list of calls lead to one decimal
abbrev pub RunsHaveOneEnd : Type 0
RunsHaveOneEnd = (text : List ℕ) (calls : List Call) (a b : SignedValue Number) → RunsFrom text calls a → RunsFrom text calls b → a ≡ b
