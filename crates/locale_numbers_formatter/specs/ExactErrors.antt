-- The numbers of the errors of exact forms.
-- Defined in docs/formatters.md, "One formatter".
-- Cited by `ExactError::number`.
use Rattle.std.specs.Prelude.{ℕ}
use Rattle.locale_numbers_formatter.specs.declared.error.ExactError.{ExactError}

abbrev pub exact_error_number : ExactError → ℕ
exact_error_number ExactError.Range = 1
exact_error_number ExactError.Exponent = 2
