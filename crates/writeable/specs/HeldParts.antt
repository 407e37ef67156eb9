-- What a contract sees of a `PartsSink`: what any events leave there.
-- Defined in docs/annotated-text.md, "Sinks".
-- Cited by the calls of `PartsSink`.
use Rattle.std.specs.Prelude.{◌≡◌, ◌≢◌, ℕ, ◌+◌, ◌-◌, ◌==◌, List, [], ◌∷◌, ◌++◌, length, Bool, cond, Option, None, Some, IsSomeAnd, slice_get, ⊤}
use Rattle.writeable.specs.AnnotatedText.{Event, byte, opened, closed, text_of, Interval, end_of, intervals_from}
use Rattle.writeable.specs.PartName.{PartName}

-- a part that is open: where it began, and how many of the listed intervals opened before it
pub record OpenInterval : Type 0 where
  pub start : ℕ
  pub place : ℕ
  pub part : PartName

-- the text, the intervals of the closed parts, and the parts that are open, each in order of opening
pub record Held : Type 0 where
  pub text : List ℕ
  pub parts : List Interval
  pub open_parts : List OpenInterval

-- what is held, and whether a call was refused
pub record HeldParts : Type 0 where
  pub held : Held
  pub refused : Bool

-- a part that begins at n after k intervals and ends as given, then the parts that open inside it
-- or later: `unlisted` where it is not listed, `after_listed` where it is
abbrev pub if_open : ℕ → ℕ → PartName → Option ℕ → List OpenInterval → List OpenInterval → List OpenInterval
if_open n k p None unlisted after_listed = record { start = n; place = k; part = p } ∷ unlisted
if_open n k p (Some m) unlisted after_listed = cond (n == m) unlisted after_listed

-- the parts that these events leave open, where the events begin at byte n and k intervals are before
abbrev pub open_from : ℕ → ℕ → List Event → List OpenInterval
open_from n k [] = []
open_from n k (byte b ∷ es) = open_from (n + 1) k es
open_from n k (opened p ∷ es) = if_open n k p (end_of n 0 es) (open_from n k es) (open_from n (k + 1) es)
open_from n k (closed ∷ es) = open_from n k es

-- what these events leave
abbrev pub held_after : List Event → Held
held_after es = record { text = text_of es; parts = intervals_from 0 es; open_parts = open_from 0 0 es }

-- t holds what s held, and then these events
abbrev pub HoldsThen : HeldParts → List Event → HeldParts → Type 0
HoldsThen s es t = (before : List Event) → s.held ≡ held_after before → t.held ≡ held_after (before ++ es)

-- a closing lists a part: one is open, and the one that was opened last has bytes
abbrev pub ListsAtClose : Held → Type 0
ListsAtClose h = IsSomeAnd (slice_get h.open_parts (length h.open_parts - 1)) (λ last. last.start ≢ length h.text)

-- the first of these events makes a list longer: a byte, an opening, or a closing that lists a part
abbrev pub NeedsRoom : HeldParts → List Event → Type 0
NeedsRoom s [] = ⊥
NeedsRoom s (byte b ∷ es) = ⊤
NeedsRoom s (opened p ∷ es) = ⊤
NeedsRoom s (closed ∷ es) = ListsAtClose s.held
