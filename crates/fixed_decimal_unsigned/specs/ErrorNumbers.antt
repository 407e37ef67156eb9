-- The number of each case of an error.
-- Defined in docs/numbers.md, "Refusals".
-- Cited by `number` of each error type.
use Rattle.std.specs.Prelude.{ℕ}
use Rattle.fixed_decimal_unsigned.specs.declared.error.ParseError.{ParseError}
use Rattle.fixed_decimal_unsigned.specs.declared.error.ConcatenateError.{ConcatenateError}
use Rattle.fixed_decimal_unsigned.specs.declared.error.ParseError.TheVariants.{Limit, Syntax, Memory}
use Rattle.fixed_decimal_unsigned.specs.declared.error.ConcatenateError.TheVariants as concatenate

-- the number of each case of `ParseError`
abbrev pub parse_error_number : ParseError → ℕ
parse_error_number Limit = 1
parse_error_number Syntax = 2
parse_error_number Memory = 3

-- the number of each case of `ConcatenateError`
abbrev pub concatenate_error_number : {T : Type 0} → ConcatenateError T → ℕ
concatenate_error_number (concatenate.Overlap _) = 1
concatenate_error_number (concatenate.Memory _) = 2
