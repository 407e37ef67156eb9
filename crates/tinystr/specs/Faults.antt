-- Which fault refuses a list of units: too long first, then the least place that is wrong, then a NUL at the end.
-- Defined in docs/small-text.md, "Faults, in their order".
-- Cited by `try_from_str`, `try_from_utf8`, `try_from_utf16`, `try_from_raw`, `FromStr` and the unvalidated type.
use Rattle.std.specs.Prelude.{◌≡◌, ℕ, suc, ◌<◌, ◌≤◌, Bool, true, ◌⊎◌, List, ◌∷◌, ◌++◌, length, replicate, nat_lt}
use Rattle.std.specs.List.{list_all}
use Rattle.tinystr.specs.SmallText.{NUL, LAST_ASCII, is_text_byte}
use Rattle.tinystr.specs.declared.error.ParseError.{ParseError}
use Rattle.tinystr.specs.declared.error.ParseError.TheVariants.{TooLong, ContainsNull, NonAscii}

-- units with nothing wrong so far: a text, and after it `nuls` NULs
pub record IsClean (nuls : ℕ) (units : List ℕ) : Type 0 where
  pub text : List ℕ
  pub ascii : list_all is_text_byte text ≡ true
  pub whole : units ≡ text ++ replicate nuls NUL

-- the least wrong place holds a unit above 127
pub record StopsAtNonAscii (units : List ℕ) : Type 0 where
  pub front : List ℕ
  pub nuls : ℕ
  pub unit : ℕ
  pub rest : List ℕ
  pub clean : IsClean nuls front
  pub whole : units ≡ front ++ unit ∷ rest
  pub above : LAST_ASCII < unit

-- the least wrong place holds a text byte after a NUL
pub record StopsAfterNul (units : List ℕ) : Type 0 where
  pub front : List ℕ
  pub nuls : ℕ
  pub unit : ℕ
  pub rest : List ℕ
  pub clean : IsClean (suc nuls) front
  pub whole : units ≡ front ++ unit ∷ rest
  pub behind : is_text_byte unit ≡ true

-- no place is wrong, and the last unit is a NUL
pub record EndsInNul (units : List ℕ) : Type 0 where
  pub nuls : ℕ
  pub clean : IsClean (suc nuls) units

-- no place is wrong; NULs are at the end where `ends_in_nul` says so
pub record IsFaultless (ends_in_nul : Bool) (units : List ℕ) : Type 0 where
  pub nuls : ℕ
  pub clean : IsClean nuls units
  pub seen : ends_in_nul ≡ nat_lt 0 nuls

-- the fault of these units at a capacity; the truth value says whether a NUL at the end is one
abbrev pub IsFault : Bool → ℕ → List ℕ → ParseError → Type 0
IsFault strict capacity units (TooLong max len) = (capacity < length units) × (max ≡ capacity) × (len ≡ length units)
IsFault strict capacity units ContainsNull =
    (length units ≤ capacity) × (StopsAfterNul units ⊎ ((strict ≡ true) × EndsInNul units))
IsFault strict capacity units NonAscii = (length units ≤ capacity) × StopsAtNonAscii units
