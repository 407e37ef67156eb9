-- Laws of small texts, beside the clauses of the calls: one form, one fault, and how the changes of a text meet.
-- Defined in docs/small-text.md, "Laws".
-- Cited by the functions of `laws`, each of which has an empty body.
use Rattle.std.specs.Prelude.{◌≡◌, ℕ, ◌^◌, ◌<◌, ◌≤◌, Bool, List, ◌++◌, length, take, replicate, nat_eq}
use Rattle.std.specs.Bool.{Decides}
use Rattle.std.specs.Ordering.{nat_cmp, is_eq}
use Rattle.std.specs.Cmp.Lexicographic.{pointwise, slice_cmp}
use Rattle.tinystr.specs.SmallText.{IsSmall, IsForm, padded}
use Rattle.tinystr.specs.declared.error.ParseError.{ParseError}
use Rattle.tinystr.specs.Faults.{IsFault}
use Rattle.tinystr.specs.Decimal.{IsDecimalText}
use Rattle.tinystr.specs.Case.{lowercase, uppercase, titlecase}

-- two texts with one form are one text
abbrev pub OneForm : Type 0
OneForm = (capacity : ℕ) (one other : List ℕ) → IsSmall capacity one → IsSmall capacity other
    → padded capacity one ≡ padded capacity other → one ≡ other

-- `==` and an order of Equal say that the texts are one
pub record EqualTexts (one other : List ℕ) : Type 0 where
  pub same : Decides (pointwise nat_eq one other) (one ≡ other)
  pub order : Decides (is_eq (slice_cmp nat_cmp one other)) (one ≡ other)

-- bytes 255, as many as the capacity, are the form of no text
abbrev pub NicheIsNoForm : Type 0
NicheIsNoForm = (capacity : ℕ) → 0 < capacity → ¬ (IsForm capacity (replicate capacity 255))

-- what has a fault is no text, and has no other fault
abbrev pub OneFault : Type 0
OneFault = (strict : Bool) (capacity : ℕ) (units : List ℕ) (one other : ParseError)
    → IsFault strict capacity units one → IsFault strict capacity units other → one ≡ other

abbrev pub TextsHaveNoFault : Type 0
TextsHaveNoFault = (strict : Bool) (capacity : ℕ) (units : List ℕ) (fault : ParseError)
    → IsFault strict capacity units fault → ¬ (IsSmall capacity units)

-- a case change twice is the change once, and keeps the length
pub record CaseSettles (text : List ℕ) : Type 0 where
  pub lower : lowercase (lowercase text) ≡ lowercase text
  pub upper : uppercase (uppercase text) ≡ uppercase text
  pub title : titlecase (titlecase text) ≡ titlecase text
  pub upper_then_lower : lowercase (uppercase text) ≡ lowercase text
  pub title_long : length (titlecase text) ≡ length text

-- the first characters of a changed text are the changed first characters
pub record CaseMeetsCut (count : ℕ) (text : List ℕ) : Type 0 where
  pub lower : take count (lowercase text) ≡ lowercase (take count text)
  pub upper : take count (uppercase text) ≡ uppercase (take count text)
  pub title : take count (titlecase text) ≡ titlecase (take count text)

-- three texts joined one way or the other, where the step between is no shorter than the whole
abbrev pub JoinsAlike : Type 0
JoinsAlike = (first whole second : ℕ) (one other last : List ℕ) → whole ≤ first → whole ≤ second
    → take whole (take first (one ++ other) ++ last) ≡ take whole (one ++ take second (other ++ last))

-- a number below 2 ^ 64 has one decimal text
abbrev pub OneDecimal : Type 0
OneDecimal = (number : ℕ) (one other : List ℕ) → number < 2 ^ 64 → IsDecimalText number one → IsDecimalText number other → one ≡ other

-- and one below 2 ^ 32 has at most ten digits
abbrev pub TenDigits : Type 0
TenDigits = (number : ℕ) (text : List ℕ) → number < 2 ^ 32 → IsDecimalText number text → length text ≤ 10
