-- What bytes say as JSON: one value, or none.
-- After RFC 8259, as `serde_json` reads it: nesting to 127, and no number too large for a float.
-- Cited by `Book::from_json`.
use Rattle.std.specs.Prelude.{◌≡◌, ℕ, List, Some, IsUtf8}
use Rattle.serde_json.specs.Data.{Data}
use Rattle.serde_json.specs.Read.{read}
use Rattle.locale_numbers_tables.specs.declared.BookError.{BookError}
use Rattle.locale_numbers_tables.specs.declared.BookError.TheVariants.{Json, Memory}

-- the bytes are text, and the text is the value in JSON
abbrev pub Reads : List ℕ → Data → Type 0
Reads bytes value = IsUtf8 bytes × (read bytes ≡ Some value)

-- the bytes have no reading as JSON
abbrev pub IsNoJson : List ℕ → Type 0
IsNoJson bytes = (value : Data) → ¬ (Reads bytes value)

-- the two faults of bytes that are to be read as JSON
abbrev pub IsJsonOrMemory : BookError → Type 0
IsJsonOrMemory Json = Unit {0}
IsJsonOrMemory Memory = Unit {0}
IsJsonOrMemory _ = ⊥
