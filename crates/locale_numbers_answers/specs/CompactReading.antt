-- The compact number that a text spells as a function of the text: the number before its mark, and the exponent after it.
-- Defined in docs/numbers.md, "Compact and scientific texts"; a law of `laws.rt` says that it is the reading which the relations of CompactText.antt of `fixed_decimal` name.
-- Cited by `answer` and `run`, through Answer.antt of `locale_numbers`, and by `read_compact`.
use Rattle.std.specs.Prelude.{ℕ, ◌==◌, ◌||◌, ◌&&◌, nat_lt, Bool, if◌then◌else◌, List, [], ◌∷◌, Option, Some, None}
use Rattle.fixed_decimal.specs.CompactText.{CompactValue}
use Rattle.fixed_decimal.specs.NumberText.{spelled}
use Rattle.fixed_decimal.specs.PlainText.{compact_mark}
use Rattle.locale_numbers_answers.specs.NumberReading.{Reading, number, beyond, nothing, is_mark, reading_of}
use Rattle.locale_numbers_requests.specs.RoundingField.{is_size}

-- `c`, `e` or `E`
abbrev pub marks_exponent : ℕ → Bool
marks_exponent c = c == compact_mark || is_mark c

-- what is before the first of these
abbrev pub before_mark : List ℕ → List ℕ
before_mark [] = []
before_mark (c ∷ cs) = if marks_exponent c then [] else c ∷ before_mark cs

-- what is from there on
abbrev pub from_mark : List ℕ → List ℕ
from_mark [] = []
from_mark (c ∷ cs) = if marks_exponent c then c ∷ cs else from_mark cs

-- the digits of an exponent after a `c`, of which the first is not zero; none, where nothing is left
abbrev pub exponent_in : List ℕ → Option (List ℕ)
exponent_in [] = Some []
exponent_in (mark ∷ digits) = if mark == compact_mark && is_size digits then Some digits else None

-- what a text says: a compact number, one beyond the limits, or nothing
pub data CompactReading : Type 0 where
  compact_number : CompactValue → CompactReading
  compact_beyond : CompactReading
  compact_nothing : CompactReading

-- a number with an exponent of these digits
abbrev pub with_exponent : Reading → List ℕ → CompactReading
with_exponent nothing digits = compact_nothing
with_exponent beyond digits = compact_beyond
with_exponent (number value) digits =
    if nat_lt (spelled digits) 256 then compact_number (record { significand = value; exponent = spelled digits }) else compact_beyond

-- the number that a front says, with the exponent that follows it, where it is one
abbrev pub compact_reading_by : List ℕ → Option (List ℕ) → CompactReading
compact_reading_by front None = compact_nothing
compact_reading_by front (Some digits) = with_exponent (reading_of front) digits

-- the reading of a text
abbrev pub compact_reading_of : List ℕ → CompactReading
compact_reading_of text = compact_reading_by (before_mark text) (exponent_in (from_mark text))
