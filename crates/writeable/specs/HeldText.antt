-- What a contract sees of a `TextSink`.
-- Defined in docs/annotated-text.md, "Sinks".
-- Cited by the calls of `TextSink`.
use Rattle.std.specs.Prelude.{◌≡◌, ℕ, List, ◌++◌, Bool}
use Rattle.writeable.specs.AnnotatedText.{Event, text_of, HasText}

-- the text held, and whether a call was refused
pub record HeldText : Type 0 where
  pub text : List ℕ
  pub refused : Bool

-- these events put their text after the text held
abbrev pub HoldsMore : HeldText → List Event → HeldText → Type 0
HoldsMore before events after = after.text ≡ before.text ++ text_of events

-- only bytes may lack room
abbrev pub LacksMemory : HeldText → List Event → Type 0
LacksMemory held events = HasText events
