-- The number of a fault.
-- Defined here, in the order of the cases.
-- Cited by `ParseError::number`.
use Rattle.std.specs.Prelude.{ℕ}
use Rattle.icu_locale_core_grammar.specs.declared.error.ParseError.{ParseError}
use Rattle.icu_locale_core_grammar.specs.declared.error.ParseError.TheVariants.{InvalidLanguage, InvalidSubtag, InvalidExtension, DuplicatedExtension, Memory}

abbrev pub number_of : ParseError → ℕ
number_of InvalidLanguage = 1
number_of InvalidSubtag = 2
number_of InvalidExtension = 3
number_of DuplicatedExtension = 4
number_of Memory = 5
