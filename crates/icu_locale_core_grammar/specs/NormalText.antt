-- The normal text of a meaning: parts in normal case, sets and maps in byte order, extensions by singleton, `x` last.
-- UTS 35, section 3.2.1, "Canonical Unicode Locale Identifiers"; docs/tags.md, "Normal text".
-- Cited by all that writes a tag or a part of one, and by the laws on the round trip.
use Rattle.std.specs.Prelude.{ℕ, Bool, List, [], ◌∷◌, ◌++◌, Option, None, Some, map, take, drop, option_to_list, flat_map, if◌then◌else◌}
use Rattle.std.specs.List.{position_or_len}
use Rattle.std.specs.Ordering.{is_lt}
use Rattle.icu_locale_core_grammar.specs.Subtags.{Text, lower, true_text, transform_text, unicode_text, private_text}
use Rattle.icu_locale_core_grammar.specs.Collections.{Entry, text_cmp}
use Rattle.icu_locale_core_grammar.specs.LanguagePart.{LanguageId}
use Rattle.icu_locale_core_grammar.specs.Extensions.{Block, spelled_block, spelled_entry, has_enough}
use Rattle.icu_locale_core_grammar.specs.Meaning.{Part, unicode, transform, other, UnicodeMeaning, TransformMeaning, keyword_needs_value, field_needs_value, ExtensionMeanings, TagMeaning}
use Rattle.icu_locale_core_grammar.specs.Pieces.{joined_text}

-- the pieces of a language part
abbrev pub language_pieces : LanguageId → List Text
language_pieces id = id.language ∷ (option_to_list id.script ++ (option_to_list id.region ++ id.variants))

-- the text of a language part
abbrev pub language_text : LanguageId → Text
language_text id = joined_text (language_pieces id)

-- within `t` all is lower case
abbrev pub inner_pieces : Option LanguageId → List Text
inner_pieces None = []
inner_pieces (Some id) = map lower (language_pieces id)

-- an entry that needs a value and has none shows `true`
abbrev pub shown_entry : Bool → Entry → Entry
shown_entry needs e = (e.0, (if has_enough needs e.1 then e.1 else true_text ∷ []))

abbrev pub entry_pieces : Bool → List Entry → List Text
entry_pieces needs es = flat_map spelled_entry (map (shown_entry needs) es)

-- the pieces after `u`, and after `t`
abbrev pub unicode_pieces : UnicodeMeaning → List Text
unicode_pieces u = u.head ++ entry_pieces keyword_needs_value u.entries

abbrev pub transform_pieces : TransformMeaning → List Text
transform_pieces t = inner_pieces t.head ++ entry_pieces field_needs_value t.entries

-- the block with these pieces, or none where there are no pieces
abbrev pub one_block : Text → List Text → Part → List (Block Part)
one_block s [] v = []
one_block s (p ∷ ps) v = record { singleton = s; body = p ∷ ps; value = v } ∷ []

abbrev pub unicode_block : UnicodeMeaning → List (Block Part)
unicode_block u = one_block unicode_text (unicode_pieces u) (unicode u)

abbrev pub transform_block : TransformMeaning → List (Block Part)
transform_block t = one_block transform_text (transform_pieces t) (transform t)

abbrev pub other_block : Entry → List (Block Part)
other_block o = one_block o.0 o.1 (other o.1)

abbrev pub other_blocks : List Entry → List (Block Part)
other_blocks os = flat_map other_block os

-- how many of the other extensions come before the first whose singleton is above `t`
abbrev pub before_transform : List Entry → ℕ
before_transform os = position_or_len (λ o. is_lt (text_cmp transform_text o.0)) os

-- the blocks in order: `t` and `u` before the first other singleton above `t`
abbrev pub blocks_of : ExtensionMeanings → List (Block Part)
blocks_of e =
    other_blocks (take (before_transform e.others) e.others)
    ++ (transform_block e.transform ++ (unicode_block e.unicode ++ other_blocks (drop (before_transform e.others) e.others)))

abbrev pub private_pieces : List Text → List Text
private_pieces [] = []
private_pieces (w ∷ ws) = private_text ∷ w ∷ ws

-- the pieces of a list of blocks
abbrev pub block_pieces : List (Block Part) → List Text
block_pieces bs = flat_map spelled_block bs

-- the pieces of a whole tag
abbrev pub normal : TagMeaning → List Text
normal m = language_pieces m.language ++ (block_pieces (blocks_of m.extensions) ++ private_pieces m.private_use)

-- the text of a whole tag
abbrev pub normal_text : TagMeaning → Text
normal_text m = joined_text (normal m)
