-- The numbers of the errors of providers.
-- Defined in docs/formatters.md, "Errors".
-- Cited by `DataError::number`.
use Rattle.std.specs.Prelude.{ℕ}
use Rattle.icu_decimal_symbols.specs.declared.error.DataError.{DataError}

abbrev pub number_of : DataError → ℕ
number_of DataError.IdentifierNotFound = 1
number_of DataError.InvalidRequest = 2
number_of DataError.Decreasing = 3
number_of DataError.TooManyZeros = 4
number_of DataError.AboveType = 5
number_of DataError.Memory = 6
number_of DataError.Custom = 7
