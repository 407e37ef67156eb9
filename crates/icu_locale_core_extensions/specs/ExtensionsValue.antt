-- What a contract sees of the extensions of a locale: what they mean, and the private subtags.
-- Defined in docs/tags.md, "Meaning".
-- Cited by the calls of `Extensions` and `Locale`.
use Rattle.std.specs.Prelude.{Bool, ◌&&◌, ◌==◌, is_none, List, [], length}
use Rattle.icu_locale_core_grammar.specs.Subtags.{Text}
use Rattle.icu_locale_core_grammar.specs.Meaning.{UnicodeMeaning, TransformMeaning, ExtensionMeanings, no_transform, no_extensions}

pub record ExtensionsValue : Type 0 where
  pub blocks : ExtensionMeanings
  pub own : List Text

abbrev pub nothing : ExtensionsValue
nothing = record { blocks = no_extensions; own = [] }

-- only the extension `u`
abbrev pub only_unicode : UnicodeMeaning → ExtensionsValue
only_unicode u = record { blocks = record { unicode = u; transform = no_transform; others = [] }; own = [] }

-- neither attributes nor keywords
abbrev pub is_empty_unicode : UnicodeMeaning → Bool
is_empty_unicode u = (length u.head == 0) && (length u.entries == 0)

-- neither a language part nor fields
abbrev pub is_empty_transform : TransformMeaning → Bool
is_empty_transform t = is_none t.head && (length t.entries == 0)

-- neither `u`, `t`, private pieces nor others
abbrev pub is_empty_extensions : ExtensionsValue → Bool
is_empty_extensions e = is_empty_unicode e.blocks.unicode && (is_empty_transform e.blocks.transform && ((length e.own == 0) && (length e.blocks.others == 0)))
