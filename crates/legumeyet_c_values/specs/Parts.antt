-- A text with its parts in what a caller gives to write to: as much of both as has room, and how much of both there is.
-- Defined in include/legumeyet.h, and docs/formatters.md, "Parts".
-- Cited by the exports that write a text with its parts.
use Rattle.std.specs.Prelude.{◌≡◌, ◌≢◌, ◌≤◌, ℕ, List, ◌++◌, length, map, take, drop, codes, if◌then◌else◌, Result, IsOk, IfErr, IsErrOf}
use Rattle.std.specs.Str.{bytes_eq}
use Rattle.writeable.specs.HeldParts.{HeldParts}
use Rattle.writeable.specs.ListedParts.{interval_of}
use Rattle.writeable.specs.declared.part.Part.{Part}
use Rattle.writeable.specs.AnnotatedText.{AnnotatedText, Interval as PartInterval}
use Rattle.legumeyet_c_values.specs.declared.call_error.CallError.{CallError}
use Rattle.legumeyet_c_values.specs.declared.call_error.CallError.TheVariants.{TooSmall}
use Rattle.legumeyet_c_values.specs.declared.intervals.Interval.{Interval}

-- ---- the intervals of C

-- the number of what a part is, by the name that ICU4X has for it
abbrev pub kind_of : List ℕ → ℕ
kind_of name =
    if bytes_eq name (codes "minusSign") then 1
    else if bytes_eq name (codes "plusSign") then 2
    else if bytes_eq name (codes "integer") then 3
    else if bytes_eq name (codes "group") then 4
    else if bytes_eq name (codes "decimal") then 5
    else if bytes_eq name (codes "fraction") then 6
    else if bytes_eq name (codes "currency") then 7
    else if bytes_eq name (codes "percentSign") then 8
    else if bytes_eq name (codes "exponentSeparator") then 9
    else if bytes_eq name (codes "exponentMinusSign") then 10
    else if bytes_eq name (codes "exponentPlusSign") then 11
    else if bytes_eq name (codes "exponentInteger") then 12
    else 0

-- a part as C has it, by bytes
abbrev pub as_interval : PartInterval → Interval
as_interval part = record { start = part.start; end = part.end; kind = kind_of part.part.value }

-- the same of a part as a sink lists it
abbrev pub listed_as : ℕ × ℕ × Part → Interval
listed_as listed = as_interval (interval_of listed)

-- ---- what is left where the caller gives room

-- a list at the front of another, as far as that reaches, and after it what was there
abbrev pub over : {T : Type 0} → List T → List T → List T
over items before = take (length before) items ++ drop (length items) before

-- what a call with parts writes to
pub record Given : Type 0 where
  pub bytes : List ℕ
  pub length : ℕ
  pub intervals : List Interval
  pub count : ℕ

abbrev pub given : List ℕ → ℕ → List Interval → ℕ → Given
given bytes length intervals count = record { bytes = bytes; length = length; intervals = intervals; count = count }

-- a text over the bytes and its parts over the intervals, with their lengths
abbrev pub written_over : AnnotatedText → Given → Given
written_over text before = record {
  bytes = over text.text before.bytes;
  length = length text.text;
  intervals = over (map as_interval text.parts) before.intervals;
  count = length text.parts;
}

-- the text and the parts that a sink holds
abbrev pub held_text : HeldParts → AnnotatedText
held_text sink = record { text = sink.held.text; parts = sink.held.parts }

-- both have room
abbrev pub HasRoom : AnnotatedText → Given → Type 0
HasRoom text before = (length text.text ≤ length before.bytes) × (length text.parts ≤ length before.intervals)

-- a text that is said was written
pub record IsWritten (says : AnnotatedText → Type 0) (has_room : AnnotatedText → Type 0) (before after : Given) : Type 0 where
  pub text : AnnotatedText
  pub said : says text
  pub room : has_room text
  pub is : after ≡ written_over text before

-- the three outcomes: a text that is said, with room for it and for its parts; one without; or a fault, and nothing was written
pub record IsPutInParts (says : AnnotatedText → Type 0) (fault : CallError → Type 0) (before after : Given) (outcome : Result (Unit {0}) CallError) : Type 0 where
  pub whole : IsOk outcome → IsWritten says (λ text. HasRoom text before) before after
  pub cut : IsErrOf outcome TooSmall → IsWritten says (λ text. ¬ (HasRoom text before)) before after
  pub refused : IfErr outcome (λ error. error ≢ TooSmall → fault error × (after ≡ before))
