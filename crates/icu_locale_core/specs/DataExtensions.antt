-- The extensions of a data locale: its subdivision under the key `sd`, and nothing else.
-- Defined in docs/preferences.md, "The locale that data is asked for".
-- Cited by the test whether a tag is a data locale, which serves the reader.
use Rattle.std.specs.Prelude.{[], Option}
use Rattle.icu_locale_core_grammar.specs.Meaning.{UnicodeMeaning, no_transform}
use Rattle.icu_locale_core_grammar.specs.TagPreferences.{Subdivision, subdivision_entries}
use Rattle.icu_locale_core_extensions.specs.ExtensionsValue.{ExtensionsValue}

-- the extension `u`
abbrev pub data_unicode : Option Subdivision → UnicodeMeaning
data_unicode s = record { head = []; entries = subdivision_entries s }

-- all of them
abbrev pub data_extensions : Option Subdivision → ExtensionsValue
data_extensions s = record { blocks = record { unicode = data_unicode s; transform = no_transform; others = [] }; own = [] }
