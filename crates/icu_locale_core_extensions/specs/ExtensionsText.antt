-- The text of extensions by themselves: what a tag has of them after its language part, without the hyphen before it.
-- UTS 35, section 3.2.1, "Canonical Unicode Locale Identifiers"; docs/tags.md, "Normal text".
-- Cited by all that writes or measures the text of extensions.
use Rattle.std.specs.Prelude.{List}
use Rattle.icu_locale_core_grammar.specs.Subtags.{Text}
use Rattle.icu_locale_core_grammar.specs.Pieces.{joined_text}
use Rattle.icu_locale_core_extensions.specs.ExtensionText.{extension_pieces}
use Rattle.icu_locale_core_extensions.specs.ExtensionsValue.{ExtensionsValue}

-- the blocks in the order of a tag, and the private pieces
abbrev pub extensions_pieces : ExtensionsValue → List Text
extensions_pieces e = extension_pieces e.blocks e.own

abbrev pub extensions_alone : ExtensionsValue → Text
extensions_alone e = joined_text (extensions_pieces e)
