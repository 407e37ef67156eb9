-- What a formatter shows of events: their text, as long as no write failed.
-- Defined in docs/annotated-text.md, "Display".
-- Cited by the sink of `display`.
use Rattle.std.specs.Prelude.{◌≡◌, ℕ, List, Bool, false}
use Rattle.std.specs.Borrow.{MutBor}
use Rattle.std.specs.Fmt.{HasWritten, IsPlainFormatter}
use Rattle.std.specs.declared.fmt.Formatter.{Formatter}
use Rattle.writeable.specs.AnnotatedText.{Event, text_of}

-- the formatter after t is the one after s, after it showed the text of these events
pub record ShowsText {W : Type 0} (took : W → List ℕ → W → Type 0) (s : MutBor (Formatter W)) (es : List Event) (t : MutBor (Formatter W)) (failed : Bool) : Type 0 where
  pub same : t.ghost_name ≡ s.ghost_name
  pub wrote : failed ≡ false → IsPlainFormatter s.now → HasWritten took s.now (text_of es) t.now
