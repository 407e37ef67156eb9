-- A value between two texts.
-- Defined in docs/annotated-text.md, "A value between two texts".
-- Cited by `Affixed`.
use Rattle.std.specs.Prelude.{ℕ, List, ◌++◌}
use Rattle.writeable.specs.AnnotatedText.{Event, bytes}

-- a value, the text before it and the text after it
pub record BetweenTexts (T : Type 0) : Type 0 where
  pub before : List ℕ
  pub value : T
  pub behind : List ℕ

-- the text before it, what the value writes, the text after it
abbrev pub affixed : {T : Type 0} → (T → List Event) → BetweenTexts T → List Event
affixed events between = bytes between.before ++ (events between.value ++ bytes between.behind)
