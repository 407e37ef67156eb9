-- When two extensions, or all of two tags, are one: part by part.
-- Defined in docs/tags.md, "Extensions as values".
-- Cited by `==` and `hash` of extensions.
use Rattle.std.specs.Prelude.{Bool, ◌&&◌, ◌++◌}
use Rattle.std.specs.Cmp.Lexicographic.{pointwise}
use Rattle.std.specs.Option.{option_eq}
use Rattle.std.specs.Hash as fed
use Rattle.icu_locale_core_grammar.specs.Subtags.{same_text}
use Rattle.icu_locale_core_grammar.specs.Collections.{Entry}
use Rattle.icu_locale_core_grammar.specs.Meaning.{UnicodeMeaning, TransformMeaning}
use Rattle.icu_locale_core_langid.specs.SameLanguage.{language_fed, same_language}
use Rattle.icu_locale_core_keywords_fields.specs.Orders.{same_entries, same_value}
use Rattle.icu_locale_core_extensions.specs.ExtensionsValue.{ExtensionsValue}

-- attributes and keywords
abbrev pub same_unicode : UnicodeMeaning → UnicodeMeaning → Bool
same_unicode a b = pointwise same_text a.head b.head && same_entries a.entries b.entries

-- the language part and the fields
abbrev pub same_transform : TransformMeaning → TransformMeaning → Bool
same_transform a b = option_eq same_language a.head b.head && same_entries a.entries b.entries

-- `u`, `t`, the private pieces, and all others in the order held
abbrev pub same_extensions : ExtensionsValue → ExtensionsValue → Bool
same_extensions a b =
    same_unicode a.blocks.unicode b.blocks.unicode
    && (same_transform a.blocks.transform b.blocks.transform && (pointwise same_text a.own b.own && same_entries a.blocks.others b.blocks.others))

-- the singleton and the pieces
abbrev pub same_other : Entry → Entry → Bool
same_other a b = same_text a.0 b.0 && same_value a.1 b.1

-- what a hasher is fed
abbrev pub unicode_fed : UnicodeMeaning → fed.HashWrites
unicode_fed u = fed.slice fed.str u.head ++ fed.slice (λ e. fed.str e.0 ++ fed.slice fed.str e.1) u.entries

abbrev pub transform_fed : TransformMeaning → fed.HashWrites
transform_fed t = fed.option language_fed t.head ++ fed.slice (λ e. fed.str e.0 ++ fed.slice fed.str e.1) t.entries

abbrev pub other_fed : Entry → fed.HashWrites
other_fed o = fed.str o.0 ++ fed.slice fed.str o.1

abbrev pub extensions_fed : ExtensionsValue → fed.HashWrites
extensions_fed e =
    unicode_fed e.blocks.unicode ++ (transform_fed e.blocks.transform ++ (fed.slice fed.str e.own ++ fed.slice other_fed e.blocks.others))
