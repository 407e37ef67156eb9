-- A text with named parts: its bytes, and the intervals of its closed parts in order of opening.
-- Defined in docs/annotated-text.md, "Parts".
-- Cited by every call of `Sink` and `Writeable`, and by `PartsSink`.
use Rattle.std.specs.Prelude.{ℕ, zero, suc, ◌+◌, ◌==◌, ◌<◌, List, [], ◌∷◌, length, map, cond, Option, None, Some}
use Rattle.writeable.specs.PartName.{PartName}

-- one step of writing: a byte of the text, a part that opens, or the end of the part opened last
pub data Event : Type 0 where
  byte : ℕ → Event
  opened : PartName → Event
  closed : Event

-- a text without parts
unfoldable pub bytes : List ℕ → List Event
bytes text = map byte text

-- a part opens
unfoldable pub opening : PartName → List Event
opening part = opened part ∷ []

-- the part opened last ends
unfoldable pub closing : List Event
closing = closed ∷ []

-- the bytes that were written
abbrev pub text_of : List Event → List ℕ
text_of [] = []
text_of (byte b ∷ es) = b ∷ text_of es
text_of (opened p ∷ es) = text_of es
text_of (closed ∷ es) = text_of es

-- the same text, without parts
abbrev pub without_parts : List Event → List Event
without_parts es = bytes (text_of es)

-- some byte is written
abbrev pub HasText : List Event → Type 0
HasText es = 0 < length (text_of es)

-- bytes from `start` up to `end`, of a text
pub record Interval : Type 0 where
  pub start : ℕ
  pub end : ℕ
  pub part : PartName

-- where the part ends that is open at byte n, with k parts open inside it; None if it is never closed
abbrev pub end_of : ℕ → ℕ → List Event → Option ℕ
end_of n k [] = None
end_of n k (byte b ∷ es) = end_of (n + 1) k es
end_of n k (opened p ∷ es) = end_of n (suc k) es
end_of n zero (closed ∷ es) = Some n
end_of n (suc k) (closed ∷ es) = end_of n k es

-- a part from n to where it ends, before the intervals that open later; one that is never closed
-- and one without bytes are left out
abbrev pub listed : ℕ → Option ℕ → PartName → List Interval → List Interval
listed n None p later = later
listed n (Some m) p later = cond (n == m) later (record { start = n; end = m; part = p } ∷ later)

-- the intervals of the parts that open in these events, which begin at byte n
abbrev pub intervals_from : ℕ → List Event → List Interval
intervals_from n [] = []
intervals_from n (byte b ∷ es) = intervals_from (n + 1) es
intervals_from n (opened p ∷ es) = listed n (end_of n 0 es) p (intervals_from n es)
intervals_from n (closed ∷ es) = intervals_from n es

-- a text and its intervals, in bytes and in order of opening
pub record AnnotatedText : Type 0 where
  pub text : List ℕ
  pub parts : List Interval

-- the annotated text that these events write
abbrev pub annotated : List Event → AnnotatedText
annotated es = record { text = text_of es; parts = intervals_from 0 es }
