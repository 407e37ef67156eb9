-- The parts of an annotated text with their texts.
-- Defined in docs/annotated-text.md, "Parts".
-- Cited by `PartsSink::part_texts`.
use Rattle.std.specs.Prelude.{ℕ, List, map, slice_range}
use Rattle.writeable.specs.AnnotatedText.{Interval}
use Rattle.writeable.specs.PartName.{PartName}

-- a part, and the bytes of its interval
pub record PartText : Type 0 where
  pub part : PartName
  pub text : List ℕ

-- the part of an interval, with the bytes from its start to its end
abbrev pub part_text : List ℕ → Interval → PartText
part_text text interval = record { part = interval.part; text = slice_range text interval.start interval.end }

-- those of all intervals, in the same order
abbrev pub part_texts : List ℕ → List Interval → List PartText
part_texts text intervals = map (part_text text) intervals
