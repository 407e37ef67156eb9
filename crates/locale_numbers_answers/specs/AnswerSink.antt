-- A text put after what a buffer holds, and where there is room for it.
-- Defined in docs/annotated-text.md, "Sinks".
-- Cited by the calls that write an answer.
use Rattle.std.specs.Prelude.{◌≡◌, ℕ, ◌+◌, ◌<◌, ◌≤◌, List, ◌++◌, length, string_bytes, string_capacity}
use Rattle.std.specs.Borrow.{MutBor}
use Rattle.std.specs.declared.string.String.{String}
use Rattle.writeable.specs.AnnotatedText.{Event, text_of}

-- so many more bytes fit into a text with no new memory
abbrev pub HasRoom : {A : Type 0} → String A → List ℕ → Type 0
HasRoom text more = length (string_bytes text) + length more ≤ string_capacity text

-- the text of these events needs new memory
abbrev pub NeedsMemory : {A : Type 0} → String A → List Event → Type 0
NeedsMemory text es = string_capacity text < length (string_bytes text) + length (text_of es)

-- the text of these events was put after what the buffer held
pub record Puts {A : Type 0} (before : MutBor (String A)) (es : List Event) (after : MutBor (String A)) : Type 0 where
  pub same : after.ghost_name ≡ before.ghost_name
  pub text : string_bytes after.now ≡ string_bytes before.now ++ text_of es
  pub capacity : string_capacity before.now ≤ string_capacity after.now
