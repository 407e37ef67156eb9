-- When two locales are one: part by part.
-- Defined in docs/tags.md, "Orders".
-- Cited by `==` and `hash` of locales.
use Rattle.std.specs.Prelude.{◌≡◌, ◌↔◌, Bool, true, ◌&&◌, ◌++◌}
use Rattle.std.specs.Hash as fed
use Rattle.icu_locale_core_grammar.specs.Meaning.{TagMeaning}
use Rattle.icu_locale_core_langid.specs.SameLanguage.{language_fed, same_language}
use Rattle.icu_locale_core_extensions.specs.ExtensionsValue.{ExtensionsValue}
use Rattle.icu_locale_core_extensions.specs.SameExtension.{same_extensions, extensions_fed}

-- all but the language part
abbrev pub extensions_of : TagMeaning → ExtensionsValue
extensions_of m = record { blocks = m.extensions; own = m.private_use }

abbrev pub same_locale : TagMeaning → TagMeaning → Bool
same_locale a b = same_language a.language b.language && same_extensions (extensions_of a) (extensions_of b)

-- `==` holds exactly of equal locales
abbrev pub SameIsEqual : Type 0
SameIsEqual = (a b : TagMeaning) → (same_locale a b ≡ true) ↔ (a ≡ b)

-- what a hasher is fed
abbrev pub locale_fed : TagMeaning → fed.HashWrites
locale_fed m = language_fed m.language ++ extensions_fed (extensions_of m)
