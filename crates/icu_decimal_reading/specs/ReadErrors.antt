-- The numbers of the errors of reading.
-- Defined in docs/reading.md, "Reading".
-- Cited by `ReadError::number`.
use Rattle.std.specs.Prelude.{ℕ}
use Rattle.icu_decimal_reading.specs.declared.error.ReadError.{ReadError}

abbrev pub read_error_number : ReadError → ℕ
read_error_number ReadError.Unreadable = 1
read_error_number ReadError.NotWritten = 2
read_error_number ReadError.Memory = 3
