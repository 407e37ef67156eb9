-- What a pattern writes: two texts around one placeholder, or one text without any.
-- After the patterns with a single placeholder of ICU4X; docs/compact-text.md, "Patterns".
-- Cited by the calls of `Pattern` and `Interpolated`.
use Rattle.std.specs.Prelude.{◌≡◌, ℕ, List, [], ◌++◌, Option, None, Some}
use Rattle.writeable.specs.AnnotatedText.{Event, bytes}

-- texts as bytes
pub data PatternText : Type 0 where
  literal : List ℕ → PatternText
  around : List ℕ → List ℕ → PatternText

-- each text of the pattern is empty
abbrev pub HasNoText : PatternText → Type 0
HasNoText (literal text) = text ≡ []
HasNoText (around before after) = (before ≡ []) × (after ≡ [])

-- a pattern with these events in its placeholder
abbrev pub pattern_events : PatternText → List Event → List Event
pattern_events (literal text) inner = bytes text
pattern_events (around before after) inner = bytes before ++ (inner ++ bytes after)

-- a value, and the pattern that it is in; without a pattern it stands alone
pub record InPattern (T : Type 0) : Type 0 where
  pub pattern : Option PatternText
  pub value : T

abbrev pub optional_events : Option PatternText → List Event → List Event
optional_events None inner = inner
optional_events (Some p) inner = pattern_events p inner

abbrev pub interpolated_events : {T : Type 0} → (T → List Event) → InPattern T → List Event
interpolated_events events i = optional_events i.pattern (events i.value)
