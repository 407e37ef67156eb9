-- Where the reading of a tag may allocate: its variants and extensions alone have no size that is known before.
-- Defined in docs/tags.md, "Locales as values".
-- Cited by the readers of whole tags and of data locales.
use Rattle.std.specs.Prelude.{Bool, false, ◌&&◌, ◌||◌, List, Some}
use Rattle.icu_locale_core_grammar.specs.Subtags.{Text, is_private_piece, is_singleton}
use Rattle.icu_locale_core_grammar.specs.Stepping.{InFront, AtBlock, InBlock, InPrivate}
use Rattle.icu_locale_core_grammar.specs.TagStages.{TagStage, tag_after, tag_start}
use Rattle.icu_locale_core_langid.specs.Allocation.{grows_along, grows_at}
use Rattle.icu_locale_core_extensions.specs.Allocation.{body_grows_at, body_keeps}

-- the piece is one more variant or private subtag, or allocates in its extension, or as a singleton ends one that keeps
-- something
abbrev pub tag_grows_at : TagStage → Text → Bool
tag_grows_at (InFront l) p = grows_at l p
tag_grows_at (AtBlock id seen e k b) p = body_grows_at b p
tag_grows_at (InBlock id seen e k b) p = body_grows_at b p || (is_singleton p && body_keeps b)
tag_grows_at (InPrivate id e own) p = is_private_piece p

-- the tag ends in an extension that keeps something
abbrev pub tag_keeps : TagStage → Bool
tag_keeps (InFront l) = false
tag_keeps (AtBlock id seen e k b) = false
tag_keeps (InBlock id seen e k b) = body_keeps b
tag_keeps (InPrivate id e own) = false

-- the walk along the pieces of a tag
abbrev pub tag_may_grow : List Text → Bool
tag_may_grow ps = grows_along tag_after tag_grows_at tag_keeps (Some tag_start) ps
