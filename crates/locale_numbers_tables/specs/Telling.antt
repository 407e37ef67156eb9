-- What an error tells of a fault: the fault itself, and nothing is said of out of memory.
-- Defined in docs/books.md, "Faults".
-- Cited by the steps of `Book::from_json`.
use Rattle.std.specs.Prelude.{◌≡◌, Option, Some}
use Rattle.locale_numbers_faults.specs.declared.BookError.{BookError}
use Rattle.locale_numbers_faults.specs.declared.BookError.TheVariants.{Json, Memory}

-- the error tells the fault that is found, or is out of memory
abbrev pub IsTold : Option BookError → BookError → Type 0
IsTold found Json = ⊥
IsTold found Memory = Unit {0}
IsTold found told = found ≡ Some told
