-- What a typed text is by some tables, and, where second ones are given, by these beside them.
-- Defined in docs/reading.md, "Lenient reading".
-- Cited by `PlainReadersInTurn`, and through FormatTyped.antt by `LenientNumberReader`.
use Rattle.std.specs.Prelude.{◌⊎◌, ℕ, List, Option, Some, None}
use Rattle.icu_decimal.specs.LenientReading.{MayAllocate}
use Rattle.icu_decimal.specs.PlainReading.{PlainReading}
use Rattle.icu_decimal.specs.PlainText.{Tables}
use Rattle.icu_decimal.specs.TypedReading.{typed_by_both, typed_reading}

-- tables that a text is read with, and others, where there are any, by which it is not to be another number
pub record TablesInTurn : Type 0 where
  pub first : Tables
  pub second : Option Tables

-- what a text is by the first tables, or by these and the second ones
abbrev pub reading_by : Tables → Option Tables → List ℕ → PlainReading
reading_by first None text = typed_reading first text
reading_by first (Some second) text = typed_by_both first second text

abbrev pub reading_in_turn : TablesInTurn → List ℕ → PlainReading
reading_in_turn tables text = reading_by tables.first tables.second text

-- some of these tables may allocate for the text
abbrev pub MayAllocateBy : Tables → Option Tables → List ℕ → Type 0
MayAllocateBy first None text = MayAllocate first text
MayAllocateBy first (Some second) text = MayAllocate first text ⊎ MayAllocate second text

abbrev pub MayAllocateInTurn : TablesInTurn → List ℕ → Type 0
MayAllocateInTurn tables text = MayAllocateBy tables.first tables.second text
