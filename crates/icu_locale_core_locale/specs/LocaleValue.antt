-- The locale of only a language part.
-- Defined in docs/tags.md, "Meaning".
-- Cited by the makers of locales, and by the test for `und`. When two locales are one, `SameLocale.antt` says.
use Rattle.std.specs.Prelude.{[], None}
use Rattle.icu_locale_core_grammar.specs.LanguagePart.{LanguageId}
use Rattle.icu_locale_core_grammar.specs.Meaning.{TagMeaning, no_extensions}
use Rattle.icu_locale_core_grammar.specs.PreferenceChanges.{unknown_language}
use Rattle.icu_locale_core_langid.specs.Parts.{with_parts}
pub use Rattle.icu_locale_core_extensions.specs.SameExtension.{same_extensions}
pub use Rattle.icu_locale_core_locale.specs.SameLocale.{extensions_of, same_locale, SameIsEqual}
pub use Rattle.icu_locale_core_locale.specs.SameLocaleLaws.{locale_decides}

-- a language part without extensions
abbrev pub language_alone : LanguageId → TagMeaning
language_alone id = record { language = id; extensions = no_extensions; private_use = [] }

-- the language `und`, and nothing else
abbrev pub unknown_locale : TagMeaning
unknown_locale = language_alone (with_parts unknown_language None None [])
