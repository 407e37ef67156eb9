-- Which table is taken: the one under the first identifier that is found.
-- Defined in docs/formatters.md, "Choosing tables".
-- Cited by `load_with_fallback`, `load_symbols`, `load_digits` and the law of the first table.
use Rattle.std.specs.Prelude.{List, [], ◌∷◌, Option, None, Some, Result, Ok, Err}
use Rattle.icu_locale_core.specs.Collections.{first_there}
use Rattle.icu_decimal_symbols.specs.declared.error.DataError.{DataError}

-- what is answered where the first says this: what the rest says, if nothing is there, and else this
abbrev pub or_next : {T : Type 0} → Result T DataError → Result T DataError → Result T DataError
or_next (Ok table) next = Ok table
or_next (Err DataError.IdentifierNotFound) next = next
or_next (Err DataError.InvalidRequest) next = Err DataError.InvalidRequest
or_next (Err DataError.Decreasing) next = Err DataError.Decreasing
or_next (Err DataError.TooManyZeros) next = Err DataError.TooManyZeros
or_next (Err DataError.AboveType) next = Err DataError.AboveType
or_next (Err DataError.Memory) next = Err DataError.Memory
or_next (Err DataError.Custom) next = Err DataError.Custom

-- the answer at the first of these identifiers at which anything but `IdentifierNotFound` is answered, or else `otherwise`
abbrev pub found_or : {I T : Type 0} → (I → Result T DataError) → DataError → List I → Result T DataError
found_or table otherwise [] = Err otherwise
found_or table otherwise (id ∷ ids) = or_next (table id) (found_or table DataError.IdentifierNotFound ids)

-- where no identifier is given, the request is invalid
abbrev pub first_found : {I T : Type 0} → (I → Result T DataError) → List I → Result T DataError
first_found table ids = found_or table DataError.InvalidRequest ids

-- ---- the same in terms of what is there

-- what a provider answers that has this, or nothing, and knows no other error
abbrev pub answered : {T : Type 0} → Option T → Result T DataError
answered None = Err DataError.IdentifierNotFound
answered (Some table) = Ok table

-- the first of the tables that is there
abbrev pub first_there_is : {I T : Type 0} → (I → Option T) → List I → Option T
first_there_is table [] = None
first_there_is table (id ∷ ids) = first_there (table id) (first_there_is table ids)
