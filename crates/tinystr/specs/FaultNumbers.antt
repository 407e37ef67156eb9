-- The number of each error.
-- Defined in docs/small-text.md, "Faults, in their order".
-- Cited by `ParseError::number` and `UleError::number`.
use Rattle.std.specs.Prelude.{ℕ}
use Rattle.tinystr.specs.declared.error.ParseError.{ParseError}
use Rattle.tinystr.specs.declared.error.ParseError.TheVariants.{TooLong, ContainsNull, NonAscii}
use Rattle.tinystr.specs.declared.error.UleError.{UleError}
use Rattle.tinystr.specs.declared.error.UleError.TheVariants.{Length, Parse}

-- too long, a NUL in the text, a unit that is not ASCII
abbrev pub parse_error_number : ParseError → ℕ
parse_error_number (TooLong max len) = 1
parse_error_number ContainsNull = 2
parse_error_number NonAscii = 3

-- a wrong count, no form
abbrev pub ule_error_number : UleError → ℕ
ule_error_number (Length len) = 1
ule_error_number Parse = 2
