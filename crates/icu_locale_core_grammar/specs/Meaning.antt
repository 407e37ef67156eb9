-- What a tag means: language part, attributes, keywords, inner language, fields, other extensions, private subtags.
-- UTS 35, sections 3.2, 3.6 and 3.7; docs/tags.md, "Meaning".
-- Cited by every reader of a tag, and by the laws on tags.
use Rattle.std.specs.Prelude.{◌≡◌, ◌≢◌, Bool, true, false, List, [], ◌∷◌, ◌++◌, Option, None, map, fold, flat_map}
use Rattle.std.specs.List.{AllByRecursion}
use Rattle.icu_locale_core_grammar.specs.Subtags.{Text, is_attribute, is_key, is_field_key, is_other_piece, is_private_piece, is_unicode, is_transform, is_other, is_private, lower}
use Rattle.icu_locale_core_grammar.specs.Collections.{Entry, Each, AreApart, set_of, put_first}
use Rattle.icu_locale_core_grammar.specs.LanguagePart.{LanguageId, MeansLanguage, MeansInner}
use Rattle.icu_locale_core_grammar.specs.Extensions.{Headed, MeansHeaded, Block, spelled_block, block_key, Whole}

-- these pieces are attributes, and `set` is the set of them
pub record MeansAttributes (ps : List Text) (set : List Text) : Type 0 where
  pub each : Each is_attribute ps
  pub meant : set_of (map lower ps) ≡ set

-- attributes, and keywords by key
abbrev pub UnicodeMeaning : Type 0
UnicodeMeaning = Headed (List Text)

-- an inner language part or none, and fields by key
abbrev pub TransformMeaning : Type 0
TransformMeaning = Headed (Option LanguageId)

-- a keyword may have no value, a field needs one
abbrev pub keyword_needs_value : Bool
keyword_needs_value = false

abbrev pub field_needs_value : Bool
field_needs_value = true

-- the pieces after `u`
abbrev pub MeansUnicode : List Text → UnicodeMeaning → Type 0
MeansUnicode ps u = MeansHeaded MeansAttributes is_key keyword_needs_value ps u

-- the pieces after `t`
abbrev pub MeansTransform : List Text → TransformMeaning → Type 0
MeansTransform ps t = MeansHeaded MeansInner is_field_key field_needs_value ps t

-- the pieces of any other extension, which mean themselves in lower case
pub record MeansOther (ps : List Text) (subtags : List Text) : Type 0 where
  pub each : Each is_other_piece ps
  pub meant : map lower ps ≡ subtags

-- what one extension means
pub data Part : Type 0 where
  unicode : UnicodeMeaning → Part
  transform : TransformMeaning → Part
  other : List Text → Part

-- the pieces after this singleton mean the part
abbrev pub MeansPart : Text → List Text → Part → Type 0
MeansPart s ps (unicode u) = (is_unicode s ≡ true) × MeansUnicode ps u
MeansPart s ps (transform t) = (is_transform s ≡ true) × MeansTransform ps t
MeansPart s ps (other subtags) = (is_other s ≡ true) × MeansOther ps subtags

-- what all extensions but the private one mean; since none is empty, an empty part is one that is not there
pub record ExtensionMeanings : Type 0 where
  pub unicode : UnicodeMeaning
  pub transform : TransformMeaning
  pub others : List Entry

abbrev pub no_unicode : UnicodeMeaning
no_unicode = record { head = []; entries = [] }

abbrev pub no_transform : TransformMeaning
no_transform = record { head = None; entries = [] }

abbrev pub no_extensions : ExtensionMeanings
no_extensions = record { unicode = no_unicode; transform = no_transform; others = [] }

-- the extensions with one more part, whose singleton is `s` in lower case
abbrev pub put_part : Text → Part → ExtensionMeanings → ExtensionMeanings
put_part s (unicode u) e = record { unicode = u; transform = e.transform; others = e.others }
put_part s (transform t) e = record { unicode = e.unicode; transform = t; others = e.others }
put_part s (other subtags) e = record { unicode = e.unicode; transform = e.transform; others = put_first (s, subtags) e.others }

abbrev pub TagMeaning : Type 0
TagMeaning = Whole LanguageId ExtensionMeanings

-- ---- a whole tag

-- the pieces of this extension mean its part, and there are some
pub record IsExtension (b : Block Part) : Type 0 where
  pub meant : MeansPart b.singleton b.body b.value
  pub filled : b.body ≢ []

-- what the extensions mean together
abbrev pub extensions_meaning : List (Block Part) → ExtensionMeanings
extensions_meaning bs = fold (λ e b. put_part (block_key b) b.value e) no_extensions bs

-- a private part, or none: `x` and at least one piece, which mean themselves in lower case
abbrev pub IsPrivatePart : List Text → List Text → Type 0
IsPrivatePart [] subtags = subtags ≡ []
IsPrivatePart (x ∷ ps) subtags = (is_private x ≡ true) × (ps ≢ []) × Each is_private_piece ps × (map lower ps ≡ subtags)

-- these pieces are a language part, extensions of which no two have one singleton, and a private part or none
pub record MeansTag (ps : List Text) (m : TagMeaning) : Type 0 where
  pub front : List Text
  pub blocks : List (Block Part)
  pub last : List Text
  pub parts : front ++ (flat_map spelled_block blocks ++ last) ≡ ps
  pub meant : MeansLanguage front m.language
  pub each : AllByRecursion IsExtension blocks
  pub apart : AreApart (map block_key blocks)
  pub together : extensions_meaning blocks ≡ m.extensions
  pub private : IsPrivatePart last m.private_use
