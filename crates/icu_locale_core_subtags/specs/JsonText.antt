-- The text of a JSON value: its own, and the empty text where it has none.
-- Defined in docs/tags.md, "Subtags as values".
-- Cited by `from_json` of every type of tags and their parts.
use Rattle.std.specs.Prelude.{[], Option, None, Some}
use Rattle.serde_json.specs.Data.{Data}
use Rattle.serde_json.specs.Find.{as_str}
use Rattle.icu_locale_core_grammar.specs.Subtags.{Text}

abbrev pub text_or_empty : Option Text → Text
text_or_empty None = []
text_or_empty (Some text) = text

abbrev pub json_text : Data → Text
json_text value = text_or_empty (as_str value)
