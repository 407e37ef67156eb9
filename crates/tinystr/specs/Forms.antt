-- Forms of values as bytes: one form, or any number of forms joined; and how bytes are refused, the count first.
-- Defined in docs/small-text.md, "Byte forms".
-- Cited by `from_bytes` and `validate_bytes` of both types.
use Rattle.std.specs.Prelude.{◌≡◌, ℕ, List, length}
use Rattle.std.specs.List.{AllByRecursion, flat_map}
use Rattle.tinystr.specs.SmallText.{IsSmall, padded}
use Rattle.tinystr.specs.declared.error.UleError.{UleError}
use Rattle.tinystr.specs.declared.error.UleError.TheVariants.{Length, Parse}

-- the bytes are the forms of these texts, one after another
pub record AreForms (capacity : ℕ) (bytes : List ℕ) : Type 0 where
  pub texts : List (List ℕ)
  pub small : AllByRecursion (IsSmall capacity) texts
  pub joined : bytes ≡ flat_map (padded capacity) texts

-- the fault of bytes that are refused: a count that does not fit, or else bytes that do not read
abbrev pub IsUleFault : Type 0 → Type 0 → List ℕ → UleError → Type 0
IsUleFault fits reads bytes (Length len) = (len ≡ length bytes) × ¬ fits
IsUleFault fits reads bytes Parse = fits × ¬ reads
