-- The laws of tables: what is cut is the whole, and what is written as RFC 4180 has it is cut and read again.
-- After RFC 4180, section 2.
-- Cited by the functions of `laws.rt`.
use Rattle.std.specs.Prelude.{◌≡◌, ◌⊎◌, ℕ, ◌==◌, ◌<◌, true, false, List, [], ◌∷◌, ◌++◌, length, Some}
use Rattle.std.specs.List.{concat}
use Rattle.legumeyet_columns.specs.Cells.{has_special}
use Rattle.legumeyet_columns.specs.FieldTexts.{in_quotes, unquoted}
use Rattle.legumeyet_columns.specs.Places.{fields_of, line_feed, quote, records_of}
use Rattle.legumeyet_columns.specs.Records.{joined}
use Rattle.legumeyet_columns.specs.declared.dialect.Dialect.{Dialect}

-- the records of bytes, one after another, are these bytes
abbrev pub RecordsAreThePieces : Type 0
RecordsAreThePieces = (dialect : Dialect) (bytes : List ℕ) → concat (records_of dialect bytes) ≡ bytes

-- the fields of bytes, with delimiters between them, are these bytes
abbrev pub FieldsAreThePieces : Type 0
FieldsAreThePieces = (dialect : Dialect) (bytes : List ℕ) → joined dialect.delimiter (fields_of dialect bytes) ≡ bytes

-- a dialect with quotes, of which the delimiter is no quote and no line feed
pub record IsCsv (dialect : Dialect) : Type 0 where
  pub quotes : dialect.has_quotes ≡ true
  pub no_quote : (quote == dialect.delimiter) ≡ false
  pub no_feed : (dialect.delimiter == line_feed) ≡ false

-- a field as RFC 4180 has it: without a delimiter, a quote and an end of a line, or a text in quotes
abbrev pub IsField : Dialect → List ℕ → Type 0
IsField dialect field = (has_special dialect field ≡ false) ⊎ ((text : List ℕ) × (field ≡ in_quotes text))

abbrev pub AreFields : Dialect → List (List ℕ) → Type 0
AreFields dialect [] = Unit {0}
AreFields dialect (field ∷ fields) = IsField dialect field × AreFields dialect fields

-- such fields, with delimiters between them, are cut into these fields
abbrev pub FieldsAreCut : Type 0
FieldsAreCut = (dialect : Dialect) → IsCsv dialect → (fields : List (List ℕ)) → 0 < length fields → AreFields dialect fields
    → fields_of dialect (joined dialect.delimiter fields) ≡ fields

-- and with a line feed after them they are a record
abbrev pub RecordsAreCut : Type 0
RecordsAreCut = (dialect : Dialect) → IsCsv dialect → (fields : List (List ℕ)) → 0 < length fields → AreFields dialect fields
    → (rest : List ℕ) → records_of dialect (joined dialect.delimiter fields ++ line_feed ∷ rest)
    ≡ (joined dialect.delimiter fields ++ line_feed ∷ []) ∷ records_of dialect rest

-- a text in quotes is read as this text
abbrev pub QuotedIsRead : Type 0
QuotedIsRead = (text : List ℕ) → unquoted (in_quotes text) ≡ Some text
