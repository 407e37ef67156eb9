-- What a call that writes a column leaves in the memory of its caller: the texts of the first numbers, one after the other, where each ends, and why the next number was not written.
-- Defined in include/legumeyet.h, and docs/c-api.md, "Columns".
-- Cited by the exports that write columns.
use Rattle.std.specs.Prelude.{◌≡◌, ◌≢◌, ◌⊎◌, ℕ, ℤ, ◌+◌, ◌≤◌, List, [], ◌∷◌, ◌++◌, length, take, drop, map, Result, Err, IsOk, IfErr, IsErrOf}
use Rattle.std.specs.Float.Ieee.{Float}
use Rattle.std.specs.List.{concat}
use Rattle.locale_numbers_lines.specs.Lines.{lines_of}
use Rattle.legumeyet_c_values.specs.Numbers.{Given, double, scaled, spelled}
use Rattle.legumeyet_c_values.specs.Putting.{IsCut}
use Rattle.legumeyet_c_values.specs.declared.call_error.CallError.{CallError}
use Rattle.legumeyet_c_values.specs.declared.call_error.CallError.TheVariants.{TooSmall}
use Rattle.legumeyet_c_values.specs.declared.columns.Column.{Column}
use Rattle.legumeyet_c_values.specs.declared.columns.Column.TheVariants as column

-- ---- the numbers of a column

abbrev pub doubles : List Float → List Given
doubles given = map (λ number. double number) given

abbrev pub integers : List ℤ → ℤ → List Given
integers mantissas exponent = map (λ mantissa. scaled mantissa exponent) mantissas

-- one number a line
abbrev pub spelled_lines : List ℕ → List Given
spelled_lines bytes = map (λ line. spelled line) (lines_of bytes)

-- what is given in a column
abbrev pub given_in : Column → List Given
given_in (column.Doubles left) = doubles left.now
given_in (column.Integers left exponent) = integers left.now exponent
given_in (column.Texts left) = spelled_lines left.now

-- ---- what is written

-- what a call that writes a column writes to
pub record Room : Type 0 where
  pub bytes : List ℕ
  pub ends : List ℕ
  pub count : ℕ

abbrev pub room : List ℕ → List ℕ → ℕ → Room
room bytes ends count = record { bytes = bytes; ends = ends; count = count }

-- where each of these texts ends, the first of which begins at a place
abbrev pub ends_from : ℕ → List (List ℕ) → List ℕ
ends_from start [] = []
ends_from start (said ∷ more) = (start + length said) ∷ ends_from (start + length said) more

-- each of these numbers has its text
abbrev pub EachSays : (Given → List ℕ → Type 0) → List Given → List (List ℕ) → Type 0
EachSays says [] [] = Unit {0}
EachSays says [] (said ∷ more) = ⊥
EachSays says (number ∷ numbers) [] = ⊥
EachSays says (number ∷ numbers) (said ∷ more) = says number said × EachSays says numbers more

-- there is a first one, of which this holds
abbrev pub OfFirst : (Given → Type 0) → List Given → Type 0
OfFirst holds [] = ⊥
OfFirst holds (number ∷ numbers) = holds number

-- the bytes after the first ones are as they were
abbrev pub IsSameFrom : ℕ → Room → Room → Type 0
IsSameFrom end before after = drop end after.bytes ≡ drop end before.bytes

-- there is no place for one more end, or the next text is longer than the bytes that are left, which are its first ones
abbrev pub LacksRoom : (Given → List ℕ → Type 0) → List Given → List (List ℕ) → Room → Room → Type 0
LacksRoom says left said before after =
    ((length before.ends ≡ length said) × (left ≢ []) × IsSameFrom (length (concat said)) before after)
    ⊎ OfFirst (λ number. (needed : ℕ) × IsCut (says number) (drop (length (concat said)) before.bytes) (drop (length (concat said)) after.bytes) needed) left

-- the first numbers have these texts, which are in the bytes, with their ends and their count; the next number has none there
pub record IsWrittenColumn (says : Given → List ℕ → Type 0) (fails : Given → CallError → Type 0) (numbers : List Given) (before after : Room) (outcome : Result (Unit {0}) CallError) : Type 0 where
  pub written : List Given
  pub left : List Given
  pub all : numbers ≡ written ++ left
  pub texts : List (List ℕ)
  pub said : EachSays says written texts
  pub bytes : take (length (concat texts)) after.bytes ≡ concat texts
  pub ends : after.ends ≡ ends_from 0 texts ++ drop (length texts) before.ends
  pub count : after.count ≡ length texts
  pub done : IsOk outcome → (left ≡ []) × IsSameFrom (length (concat texts)) before after
  pub cut : IsErrOf outcome TooSmall → LacksRoom says left texts before after
  pub refused : IfErr outcome (λ error. error ≢ TooSmall → OfFirst (λ number. fails number error) left × IsSameFrom (length (concat texts)) before after)

-- no number was looked at
pub record IsRefusedColumn (fault : CallError) (before after : Room) (outcome : Result (Unit {0}) CallError) : Type 0 where
  pub cause : outcome ≡ Err fault
  pub untouched : after ≡ record before { count = 0 }

-- ---- how far a column is written

-- these are left, and the texts of those before them end here
pub record Reaches (says : Given → List ℕ → Type 0) (numbers left : List Given) (before after : Room) (end : ℕ) : Type 0 where
  pub written : List Given
  pub all : numbers ≡ written ++ left
  pub texts : List (List ℕ)
  pub said : EachSays says written texts
  pub end_is : end ≡ length (concat texts)
  pub bytes : after.bytes ≡ concat texts ++ drop end before.bytes
  pub ends : after.ends ≡ ends_from 0 texts ++ drop (length texts) before.ends
  pub count : after.count ≡ length texts
  pub fits : end ≤ length before.bytes
  pub placed : length texts ≤ length before.ends
