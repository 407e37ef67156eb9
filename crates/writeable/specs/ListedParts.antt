-- The fields of a `PartsSink` as intervals.
-- Defined in docs/annotated-text.md, "Sinks".
-- Cited by `PartsSink::parts` and by what a contract sees of a `PartsSink` and of its parts with their texts.
use Rattle.std.specs.Borrow.{Bor}
use Rattle.std.specs.Prelude.{ℕ, ◌≤◌, List, length, All, IsCharBoundary}
use Rattle.writeable.specs.declared.part.Part.{Part}
use Rattle.writeable.specs.declared.parts_sink.OpenPart.{OpenPart}
use Rattle.writeable.specs.AnnotatedText.{Interval}
use Rattle.writeable.specs.HeldParts.{OpenInterval}
use Rattle.writeable.specs.PartText.{PartText}
use Rattle.writeable.specs.PartName.{name_of}

-- a start, an end and a part
abbrev pub interval_of : ℕ × ℕ × Part → Interval
interval_of listed = record { start = listed.0; end = listed.1; part = name_of listed.2 }

-- a part that is open
abbrev pub open_interval : OpenPart → OpenInterval
open_interval o = record { start = o.start; place = o.place; part = name_of o.part }

-- each open part has its place in the list
abbrev pub HavePlaces : List OpenPart → ℕ → Type 0
HavePlaces open_parts n = All (λ o. o.place ≤ n) open_parts

-- a listed part has whole characters of the text
pub record IsCutOut (text : List ℕ) (listed : ℕ × ℕ × Part) : Type 0 where
  pub ordered : listed.0 ≤ listed.1
  pub start : IsCharBoundary text listed.0
  pub end : IsCharBoundary text listed.1

-- the fields fit each other: each open part has its place in the list and begins at a character,
-- and each listed part has whole characters
pub record FitTogether (text : List ℕ) (parts : List (ℕ × ℕ × Part)) (open_parts : List OpenPart) : Type 0 where
  pub places : HavePlaces open_parts (length parts)
  pub cut_out : All (IsCutOut text) parts
  pub begun : All (λ o. IsCharBoundary text o.start) open_parts

-- a part and its text, wherever they are stored
abbrev pub given_text : Part × Bor (List ℕ) → PartText
given_text item = record { part = name_of item.0; text = item.1.now }
