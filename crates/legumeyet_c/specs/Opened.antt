-- What is open, as it is shown to what reads it.
-- Defined in docs/c-api.md, "Handles".
-- Cited by what writes and reads by the content of a handle, its own or shared.
use Rattle.std.specs.Borrow.{Bor}
use Rattle.std.specs.Prelude.{Option, option_map}
use Rattle.legumeyet_c.specs.declared.content.Content.{Content}

abbrev pub opened : Option (Bor Content) → Option Content
opened shown = option_map (λ content. content.now) shown
