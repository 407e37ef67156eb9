-- The text of a locale as it is written: the language part, and the extensions with the private subtags.
-- UTS 35, section 3.2.1, "Canonical Unicode Locale Identifiers"; docs/tags.md, "Normal text".
-- Cited by all that writes the text of a locale.
use Rattle.std.specs.Prelude.{List, ◌++◌, flat_map}
use Rattle.writeable.specs.AnnotatedText.{Event, bytes}
use Rattle.icu_locale_core_grammar.specs.Subtags.{Text}
use Rattle.icu_locale_core_grammar.specs.Pieces.{hyphened}
use Rattle.icu_locale_core_grammar.specs.Meaning.{TagMeaning}
use Rattle.icu_locale_core_langid.specs.LanguageText.{language_text}
use Rattle.icu_locale_core_extensions.specs.ExtensionText.{extension_pieces}

-- what follows the language part
abbrev pub locale_tail : TagMeaning → Text
locale_tail m = flat_map hyphened (extension_pieces m.extensions m.private_use)

-- the text, a part at a time
abbrev pub locale_events : TagMeaning → List Event
locale_events m = bytes (language_text m.language) ++ bytes (locale_tail m)
