-- The texts of extensions: the singleton and its pieces, joined by hyphens; nothing of an extension without pieces.
-- UTS 35, section 3.2.1, "Canonical Unicode Locale Identifiers"; docs/tags.md, "Normal text".
-- Cited by all that writes or measures these texts.
use Rattle.std.specs.Prelude.{Bool, true, false, ◌&&◌, ◌++◌, List, flat_map}
use Rattle.writeable.specs.AnnotatedText.{Event, bytes}
use Rattle.icu_locale_core_grammar.specs.Subtags.{Text, private_text}
use Rattle.icu_locale_core_grammar.specs.Collections.{Entry}
use Rattle.icu_locale_core_grammar.specs.Meaning.{Part, other, UnicodeMeaning, TransformMeaning, ExtensionMeanings}
use Rattle.icu_locale_core_grammar.specs.NormalText.{one_block, unicode_block, transform_block, other_block, other_blocks, block_pieces, blocks_of, private_pieces}
use Rattle.icu_locale_core_grammar.specs.Pieces.{hyphened, joined_text}
use Rattle.icu_locale_core_grammar.specs.TagStages.{has_none}
use Rattle.icu_locale_core_extensions.specs.ExtensionsValue.{ExtensionsValue}

-- the pieces of an extension, with its singleton; none where the singleton has none after it
abbrev pub own_pieces : Text → List Text → Part → List Text
own_pieces s ps v = block_pieces (one_block s ps v)

-- only a singleton and the pieces after it
abbrev pub block_text : Text → List Text → Part → Text
block_text s ps v = joined_text (own_pieces s ps v)

-- the text of an extension by itself
abbrev pub unicode_alone : UnicodeMeaning → Text
unicode_alone u = joined_text (block_pieces (unicode_block u))

abbrev pub transform_alone : TransformMeaning → Text
transform_alone t = joined_text (block_pieces (transform_block t))

abbrev pub other_alone : Entry → Text
other_alone o = joined_text (block_pieces (other_block o))

-- these pieces, where they begin the text, or else each after a hyphen
abbrev pub placed : Bool → List Text → Text
placed true ps = joined_text ps
placed false ps = flat_map hyphened ps

-- all pieces after the language part, in the order of a tag
abbrev pub extension_pieces : ExtensionMeanings → List Text → List Text
extension_pieces e own = block_pieces (blocks_of e) ++ private_pieces own

-- ---- as they are written, a part at a time

-- these pieces, and what comes next; the truth value says whether they begin the text
abbrev pub placed_then : Bool → List Text → (Bool → List Event) → List Event
placed_then b ps next = bytes (placed b ps) ++ next (b && has_none ps)

abbrev pub private_events : ExtensionsValue → Bool → List Event
private_events e b = bytes (placed b (own_pieces private_text e.own (other e.own)))

-- others, and the private pieces
abbrev pub last_events : List Entry → ExtensionsValue → Bool → List Event
last_events last e b = placed_then b (block_pieces (other_blocks last)) (private_events e)

-- `u`, and what follows it
abbrev pub unicode_events : List Entry → ExtensionsValue → Bool → List Event
unicode_events last e b = placed_then b (block_pieces (unicode_block e.blocks.unicode)) (last_events last e)

-- `t`, and what follows it
abbrev pub transform_events : List Entry → ExtensionsValue → Bool → List Event
transform_events last e b = placed_then b (block_pieces (transform_block e.blocks.transform)) (unicode_events last e)

-- others, `t` and `u`, others, and the private pieces
abbrev pub ordered_events : Bool → List Entry → ExtensionsValue → List Entry → List Event
ordered_events b first e last = placed_then b (block_pieces (other_blocks first)) (transform_events last e)
