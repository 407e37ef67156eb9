-- The number of each error that `fixed_decimal` adds to those of `fixed_decimal_unsigned`.
-- Defined in docs/numbers.md, "Refusals".
-- Cited by `number` of `LimitError` and `CallsError`.
use Rattle.std.specs.Prelude.{ℕ}
use Rattle.fixed_decimal.specs.declared.call.CallsError.{CallsError}
use Rattle.fixed_decimal.specs.declared.call.CallsError.TheVariants.{Parse, Write, Memory}

-- a number that shows digits after the point is no whole number
abbrev pub limit_error_number : ℕ
limit_error_number = 1

-- the number of each case of `CallsError`
abbrev pub calls_error_number : CallsError → ℕ
calls_error_number Parse = 1
calls_error_number Write = 2
calls_error_number Memory = 3
