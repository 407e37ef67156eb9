-- Which types a table keeps of those that it is made of, and which lists make no table.
-- Defined in docs/compact-text.md, "Tables".
-- Cited by `CompactPatterns::new` and `CompactPatterns::from_json`.
use Rattle.std.specs.Prelude.{◌≡◌, ◌≢◌, ℕ, ◌≤◌, ◌+◌, ◌⊎◌, List, [], ◌∷◌, map, cond, nat_lt, Option, None, Some}
use Rattle.std.specs.Option.{option_or}
use Rattle.icu_decimal_symbols.specs.declared.error.DataError.{DataError}
use Rattle.icu_decimal_compact_value.specs.declared.entry.CompactEntry.{CompactEntry}
use Rattle.icu_decimal_patterns.specs.Elements.{Elements, without_one}
use Rattle.icu_decimal_patterns.specs.Pattern.{PatternText}

-- a pattern for each plural
abbrev pub Patterns : Type 0
Patterns = Elements PatternText

-- the patterns of the numbers from a power of ten on, and the power of ten that they stand for
pub record TypePatterns : Type 0 where
  pub log10_type : ℕ
  pub exponent : ℕ
  pub patterns : Patterns

-- an entry of a map from types
abbrev pub of_type : ℕ × (ℕ × Patterns) → TypePatterns
of_type e = record { log10_type = e.0; exponent = e.1.0; patterns = e.1.1 }

-- no exponent is below the one before it, and none below `least`
abbrev pub NeverFalls : ℕ → List TypePatterns → Type 0
NeverFalls least [] = Unit {0}
NeverFalls least (x ∷ xs) = (least ≤ x.exponent) × NeverFalls x.exponent xs

-- what is kept where `base` is written before the first type: a type with the same patterns adds nothing, and any other is kept,
-- and is the base of those after it, without its slot `1`
abbrev pub Keeps : Option Patterns → List TypePatterns → List TypePatterns → Type 0
Keeps base [] kept = kept ≡ []
Keeps base (x ∷ xs) kept =
    ((base ≡ Some x.patterns) × Keeps base xs kept)
    ⊎ ((base ≢ Some x.patterns) × (rest : List TypePatterns) × (kept ≡ x ∷ rest) × Keeps (Some (without_one x.patterns)) xs rest)

abbrev pub entry_in : TypePatterns → CompactEntry
entry_in x = record { log10_type = x.log10_type; exponent = x.exponent }

-- what is wrong with an entry: its exponent is above its type, or more than 15 below it
abbrev pub fault_of : CompactEntry → Option DataError
fault_of x =
    cond (nat_lt x.log10_type x.exponent) (Some DataError.AboveType)
    (cond (nat_lt (x.exponent + 15) x.log10_type) (Some DataError.TooManyZeros) None)

-- the fault of the least type that has one
abbrev pub first_fault : List TypePatterns → Option DataError
first_fault [] = None
first_fault (x ∷ xs) = option_or (fault_of (entry_in x)) (first_fault xs)

-- ---- tables

-- what a table holds: its entries, and the patterns of each in the same order
pub record CompactTable : Type 0 where
  pub entries : List CompactEntry
  pub patterns : List Patterns

abbrev pub table_of : List TypePatterns → CompactTable
table_of kept = record { entries = map entry_in kept; patterns = map (λ x. x.patterns) kept }

-- the table of the types given, where `zero` are the patterns of numbers below all of them
pub record IsTable (zero : Option Patterns) (given : List TypePatterns) (table : CompactTable) : Type 0 where
  pub order : NeverFalls 0 given
  pub kept : List TypePatterns
  pub keeps : Keeps zero given kept
  pub sound : first_fault kept ≡ None
  pub whole : table ≡ table_of kept

-- each entry with its patterns
abbrev pub types_held : List CompactEntry → List Patterns → List TypePatterns
types_held [] patterns = []
types_held (entry ∷ entries) [] = []
types_held (entry ∷ entries) (first ∷ patterns) = record { log10_type = entry.log10_type; exponent = entry.exponent; patterns = first } ∷ types_held entries patterns

-- a table is made of the types that it holds
abbrev pub IsOwnTable : CompactTable → Type 0
IsOwnTable table = IsTable None (types_held table.entries table.patterns) table

-- the types given make no table for this fault
pub record IsFaulty (zero : Option Patterns) (given : List TypePatterns) (fault : DataError) : Type 0 where
  pub order : NeverFalls 0 given
  pub kept : List TypePatterns
  pub keeps : Keeps zero given kept
  pub first : first_fault kept ≡ Some fault

-- the types given make a table that holds one of them, so that making it takes memory
pub record MakesEntries (zero : Option Patterns) (given : List TypePatterns) : Type 0 where
  pub table : CompactTable
  pub made : IsTable zero given table
  pub held : table.entries ≢ []

-- an error that tells why there is no table
abbrev pub IsTableFault : DataError → Type 0
IsTableFault DataError.Decreasing = Unit {0}
IsTableFault DataError.TooManyZeros = Unit {0}
IsTableFault DataError.AboveType = Unit {0}
IsTableFault DataError.Memory = Unit {0}
IsTableFault _ = ⊥
