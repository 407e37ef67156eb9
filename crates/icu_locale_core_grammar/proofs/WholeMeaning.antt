-- A whole of any parts: a front, blocks with singletons that differ, and a part of its own at the end.
-- The readers are proved over any parts; a tag is the whole of its rules.
use Rattle.std.specs.Prelude.{◌≡◌, ◌≢◌, ◌↔◌, Bool, true, List, [], ◌∷◌, ◌++◌, map, fold, flat_map}
use Rattle.std.specs.List.{AllByRecursion}
use Rattle.icu_locale_core_grammar.specs.Subtags.{Text, is_private, is_private_piece, lower}
use Rattle.icu_locale_core_grammar.specs.Collections.{Each, AreApart}
use Rattle.icu_locale_core_grammar.specs.LanguagePart.{LanguageId, MeansLanguage}
use Rattle.icu_locale_core_grammar.specs.Extensions.{Block, spelled_block, block_key, Whole}
use Rattle.icu_locale_core_grammar.specs.Meaning.{Part, MeansPart, ExtensionMeanings, no_extensions, put_part, IsExtension, IsPrivatePart, TagMeaning, MeansTag}

-- the pieces mean the value, and there are some
pub record IsBlock {V : Type 0} (MeansBody : Text → List Text → V → Type 0) (b : Block V) : Type 0 where
  pub meant : MeansBody b.singleton b.body b.value
  pub filled : b.body ≢ []

-- the values of the blocks put together
abbrev pub blocks_meaning : {V E : Type 0} → (Text → V → E → E) → E → List (Block V) → E
blocks_meaning put none bs = fold (λ e b. put (block_key b) b.value e) none bs

-- a private part, or none: `x` and at least one piece, which mean themselves in lower case
abbrev pub IsOwnPart : (Text → Bool) → (Text → Bool) → List Text → List Text → Type 0
IsOwnPart is_x is_piece [] subtags = subtags ≡ []
IsOwnPart is_x is_piece (x ∷ ps) subtags = (is_x x ≡ true) × (ps ≢ []) × Each is_piece ps × (map lower ps ≡ subtags)

-- what the parts of a whole are, and what they mean
pub record PartRules (I V E : Type 0) : Type 1 where
  pub means_front : List Text → I → Type 0
  -- of the pieces after this singleton
  pub means_body : Text → List Text → V → Type 0
  -- the values of the blocks with one more, by its key; and where there is no block
  pub put : Text → V → E → E
  pub none : E
  -- the first piece of the private part, and each piece after it
  pub begins_private : Text → Bool
  pub is_private_piece : Text → Bool

-- these pieces are a front, blocks with singletons that differ, and a private part or none, and they mean `m`
pub record MeansWhole {I V E : Type 0} (rules : PartRules I V E) (ps : List Text) (m : Whole I E) : Type 0 where
  pub front : List Text
  pub blocks : List (Block V)
  pub last : List Text
  pub parts : front ++ (flat_map spelled_block blocks ++ last) ≡ ps
  pub meant : rules.means_front front m.language
  pub each : AllByRecursion (IsBlock rules.means_body) blocks
  pub apart : AreApart (map block_key blocks)
  pub together : blocks_meaning rules.put rules.none blocks ≡ m.extensions
  pub private : IsOwnPart rules.begins_private rules.is_private_piece last m.private_use

-- ---- a tag is the whole of these rules

abbrev pub tag_rules : PartRules LanguageId Part ExtensionMeanings
tag_rules = record {
  means_front = MeansLanguage;
  means_body = MeansPart;
  put = put_part;
  none = no_extensions;
  begins_private = is_private;
  is_private_piece = is_private_piece;
}

each_block : (bs : List (Block Part)) → AllByRecursion IsExtension bs → AllByRecursion (IsBlock MeansPart) bs
each_block [] each = tt
each_block (b ∷ bs) each = (record { meant = each.0.meant; filled = each.0.filled }, each_block bs each.1)

each_extension : (bs : List (Block Part)) → AllByRecursion (IsBlock MeansPart) bs → AllByRecursion IsExtension bs
each_extension [] each = tt
each_extension (b ∷ bs) each = (record { meant = each.0.meant; filled = each.0.filled }, each_extension bs each.1)

own_part : (last subtags : List Text) → IsPrivatePart last subtags → IsOwnPart is_private is_private_piece last subtags
own_part [] subtags is = is
own_part (x ∷ ps) subtags is = is

private_part : (last subtags : List Text) → IsOwnPart is_private is_private_piece last subtags → IsPrivatePart last subtags
private_part [] subtags is = is
private_part (x ∷ ps) subtags is = is

pub tag_is_whole : (ps : List Text) (m : TagMeaning) → MeansTag ps m ↔ MeansWhole tag_rules ps m
tag_is_whole ps m = (to, from)
  where
    to : MeansTag ps m → MeansWhole tag_rules ps m
    to a = record {
      front = a.front;
      blocks = a.blocks;
      last = a.last;
      parts = a.parts;
      meant = a.meant;
      each = each_block a.blocks a.each;
      apart = a.apart;
      together = a.together;
      private = own_part a.last m.private_use a.private;
    }

    from : MeansWhole tag_rules ps m → MeansTag ps m
    from a = record {
      front = a.front;
      blocks = a.blocks;
      last = a.last;
      parts = a.parts;
      meant = a.meant;
      each = each_extension a.blocks a.each;
      apart = a.apart;
      together = a.together;
      private = private_part a.last m.private_use a.private;
    }
