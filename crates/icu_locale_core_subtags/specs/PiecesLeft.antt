-- The pieces of what is left of a text, where something is left.
-- Defined in docs/tags.md, "Pieces".
-- Cited by `SubtagIterator`, whose value it is.
use Rattle.std.specs.Prelude.{List, [], Option, None, Some}
use Rattle.std.specs.Borrow.{Bor}
use Rattle.icu_locale_core_grammar.specs.Subtags.{Text}
use Rattle.icu_locale_core_grammar.specs.Pieces.{pieces}

abbrev pub pieces_left : Option (Bor Text) → List Text
pieces_left None = []
pieces_left (Some rest) = pieces rest.now
