-- What several readings of one text have in common: the decimal that one of them is, where no other one is another decimal.
-- Defined in docs/units.md, "Lenient reading".
-- Cited by `add_reading`, by the reading of LenientUnits.antt, and by readers in turn.
use Rattle.std.specs.Prelude.{◌≡◌, ◌≢◌, ◌⊎◌, Bool, true, cond, List, [], ◌∷◌, Option, None, Some, Result, Ok, Err}
use Rattle.std.specs.List.{list_all}
use Rattle.fixed_decimal.specs.Number.{Number}
use Rattle.fixed_decimal.specs.SignedEquality.{are_equal_decimals}
use Rattle.fixed_decimal.specs.SignedValue.{SignedValue}
use Rattle.icu_decimal_reading.specs.DecimalOfText.{PlainReading, decimal, not_written, unreadable}
use Rattle.icu_decimal_reading.specs.declared.error.ReadError.{ReadError}
use Rattle.icu_decimal_reading.specs.declared.error.ReadError.TheVariants.{Unreadable, NotWritten, Memory}

-- a reading is no other decimal than this one
abbrev pub is_no_other : SignedValue Number → PlainReading → Bool
is_no_other v unreadable = true
is_no_other v not_written = true
is_no_other v (decimal w) = are_equal_decimals v w

-- a decimal that was read, where none of the other readings is another one
abbrev pub unless_others : SignedValue Number → List PlainReading → PlainReading
unless_others v rs = cond (list_all (is_no_other v) rs) (decimal v) not_written

-- the first of these readings that is a decimal, where none that follow is another one
abbrev pub agreed_reading : List PlainReading → PlainReading
agreed_reading [] = not_written
agreed_reading (unreadable ∷ rs) = unreadable
agreed_reading (not_written ∷ rs) = agreed_reading rs
agreed_reading (decimal v ∷ rs) = unless_others v rs

-- with a reading that comes first: its decimal, where the text is this one's own or none of the others is another one; what the others agree on, where it is none
abbrev pub own_or_agreed : (SignedValue Number → Bool) → PlainReading → List PlainReading → PlainReading
own_or_agreed is_own unreadable others = unreadable
own_or_agreed is_own not_written others = agreed_reading others
own_or_agreed is_own (decimal v) others = cond (is_own v) (decimal v) (unless_others v others)

-- one of these readings is this decimal
abbrev pub IsOneOf : List PlainReading → SignedValue Number → Type 0
IsOneOf [] v = ⊥
IsOneOf (r ∷ rs) v = (r ≡ decimal v) ⊎ IsOneOf rs v

-- two of them are two decimals
pub record DoDiffer (rs : List PlainReading) : Type 0 where
  pub one : SignedValue Number
  pub two : SignedValue Number
  pub first : IsOneOf rs one
  pub second : IsOneOf rs two
  pub differ : one ≢ two

-- ---- one after another

-- these readings, where a decimal was found before them or none was
abbrev pub agreed_after : Option (SignedValue Number) → List PlainReading → PlainReading
agreed_after None rs = agreed_reading rs
agreed_after (Some v) rs = unless_others v rs

-- what is found with one reading more, before the rest
abbrev pub IsAdded : Result (Option (SignedValue Number)) ReadError → Option (SignedValue Number) → PlainReading → List PlainReading → Type 0
IsAdded (Ok next) found one rest = agreed_after found (one ∷ rest) ≡ agreed_after next rest
IsAdded (Err Unreadable) found one rest = agreed_after found (one ∷ rest) ≡ unreadable
IsAdded (Err NotWritten) found one rest = agreed_after found (one ∷ rest) ≡ not_written
IsAdded (Err Memory) found one rest = Unit {0}
