-- What the number of an error means.
-- Defined in include/legumeyet.h.
-- Cited by `legumeyet_error_text`.
use Rattle.std.specs.Prelude.{◌≡◌, ℕ, ℤ, List}
use Rattle.legumeyet_c_values.specs.CallErrors.{number_of, text_of}
use Rattle.legumeyet_c_values.specs.declared.call_error.CallError.{CallError}
use Rattle.legumeyet_c_values.specs.declared.call_error.CallError.TheVariants.{UnknownOption}

-- an error has this number, and the text is what it means
pub record SaysError (number : ℤ) (text : List ℕ) : Type 0 where
  pub error : CallError
  pub is_number : number ≡ number_of error
  pub is_text : text ≡ text_of error

-- no error has this number
abbrev pub IsNoError : ℤ → Type 0
IsNoError number = (error : CallError) → ¬ (number ≡ number_of error)

abbrev pub IsInformationFault : ℤ → CallError → Type 0
IsInformationFault number UnknownOption = IsNoError number
IsInformationFault number _ = ⊥
