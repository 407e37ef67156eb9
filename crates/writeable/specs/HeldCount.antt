-- What a contract sees of a `CountSink`, and what counting is.
-- Defined in docs/annotated-text.md, "Sinks".
-- Cited by the calls of `CountSink`.
use Rattle.std.specs.Prelude.{◌≡◌, ℕ, ◌+◌, ◌^◌, ◌<◌, ◌≤◌, List, length, Bool}
use Rattle.writeable.specs.AnnotatedText.{Event, text_of}

-- the count of bytes, and whether a call was refused
pub record HeldCount : Type 0 where
  pub count : ℕ
  pub refused : Bool

-- one above the greatest count
unfoldable pub count_limit : ℕ
count_limit = 2 ^ 64

-- t has counted the text of these events after what s had counted
pub record Counts (s : HeldCount) (es : List Event) (t : HeldCount) : Type 0 where
  pub count : t.count ≡ s.count + length (text_of es)
  pub fits : s.count < count_limit → t.count < count_limit

-- with the text of these events the count would pass the greatest u64
abbrev pub PassesLimit : HeldCount → List Event → Type 0
PassesLimit s es = count_limit ≤ s.count + length (text_of es)
