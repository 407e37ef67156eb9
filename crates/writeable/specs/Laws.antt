-- Laws of annotated texts: what events one after another, and a part around events, write.
-- Defined in docs/annotated-text.md, "Laws".
-- Cited by the functions of `laws`.
use Rattle.std.specs.Prelude.{◌≡◌, ℕ, ◌+◌, ◌<◌, ◌≤◌, ◌==◌, List, [], ◌∷◌, ◌++◌, length, map, cond, All, None}
use Rattle.writeable.specs.AnnotatedText.{Event, bytes, opening, closing, text_of, without_parts, Interval, end_of, AnnotatedText, annotated}
use Rattle.writeable.specs.HeldParts.{held_after}
use Rattle.writeable.specs.HeldCount.{HeldCount, count_limit, Counts, PassesLimit}
use Rattle.writeable.specs.PartName.{PartName}
use Rattle.writeable.specs.Taking.{HasBegun}

-- an interval that begins n bytes later
abbrev pub shifted : ℕ → Interval → Interval
shifted n i = record { start = i.start + n; end = i.end + n; part = i.part }

-- one annotated text after another
abbrev pub joined : AnnotatedText → AnnotatedText → AnnotatedText
joined front back = record {
  text = front.text ++ back.text;
  parts = front.parts ++ map (shifted (length front.text)) back.parts;
}

-- each part that opens in the events is closed in them
abbrev pub IsClosed : List Event → Type 0
IsClosed es = (held_after es).open_parts ≡ []

-- and each closing belongs to a part that opens in them
pub record IsBalanced (es : List Event) : Type 0 where
  pub closed : IsClosed es
  pub own : end_of 0 0 es ≡ None

-- joining: after events that leave nothing open, more events write their annotated text after
abbrev pub Joining : Type 0
Joining = (first second : List Event) → IsClosed first → annotated (first ++ second) ≡ joined (annotated first) (annotated second)

-- without parts: the same bytes written without parts are the same text, with no parts
abbrev pub TextAlone : Type 0
TextAlone = (es : List Event) → annotated (without_parts es) ≡ record { text = (annotated es).text; parts = [] }

-- texts join whatever is open
abbrev pub TextsJoin : Type 0
TextsJoin = (first second : List Event) → text_of (first ++ second) ≡ text_of first ++ text_of second

-- a count goes on exactly where it stays within the limit
pub record CountAlone : Type 0 where
  pub counted : (s t : HeldCount) (es : List Event) → s.count < count_limit → Counts s es t → s.count + length (annotated es).text < count_limit
  pub refused : (s t : HeldCount) (es : List Event) → HasBegun Counts PassesLimit s es t → count_limit ≤ s.count + length (annotated es).text

-- a part around balanced events, before their own parts; it is not listed where they write no byte
abbrev pub around : PartName → AnnotatedText → AnnotatedText
around part inner = record {
  text = inner.text;
  parts = cond (0 == length inner.text) inner.parts (record { start = 0; end = length inner.text; part = part } ∷ inner.parts);
}

abbrev pub PartAround : Type 0
PartAround = (part : PartName) (es : List Event) → IsBalanced es → annotated (opening part ++ (es ++ closing)) ≡ around part (annotated es)

-- what is balanced: bytes, events one after another, a part around events
pub record Balanced : Type 0 where
  pub none : IsBalanced []
  pub text : (text : List ℕ) → IsBalanced (bytes text)
  pub append : (first second : List Event) → IsBalanced first → IsBalanced second → IsBalanced (first ++ second)
  pub part : (part : PartName) (es : List Event) → IsBalanced es → IsBalanced (opening part ++ (es ++ closing))

-- an interval has a byte, and ends within n bytes
pub record IsWithin (n : ℕ) (i : Interval) : Type 0 where
  pub nonempty : i.start < i.end
  pub ends : i.end ≤ n

abbrev pub PartsWithin : Type 0
PartsWithin = (es : List Event) → All (IsWithin (length (annotated es).text)) (annotated es).parts
