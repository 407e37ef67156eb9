-- A language identifier of given parts.
-- UTS 35, section 3.1, "Unicode Language Identifier"; docs/tags.md, "The language part".
-- Cited by the makers of language identifiers.
use Rattle.std.specs.Prelude.{List, Option}
use Rattle.icu_locale_core_grammar.specs.Subtags.{Text}
use Rattle.icu_locale_core_grammar.specs.LanguagePart.{LanguageId}

abbrev pub with_parts : Text → Option Text → Option Text → List Text → LanguageId
with_parts language script region variants = record { language = language; script = script; region = region; variants = variants }
