-- A part that has ended goes on with what comes after it.
use Rattle.std.proofs.Common.{◌≡◌, ◌<◌, ℕ, Bool, true, false, not, ◌&&◌, ◌||◌, List, [], ◌∷◌, ◌++◌, length, Option, None, Some, sym, refl, ap, ◌∙◌, subst}
use Rattle.std.specs.Prelude.{is_some, if◌then◌else◌}
use Rattle.std.proofs.lemmas.Bool.{or_parts, false≢true}
use Rattle.std.proofs.lemmas.List.{length-map}
use Rattle.icu_locale_core_grammar.specs.Subtags.{Text, is_unicode, is_transform, is_private, is_private_piece, is_singleton, spells, lower, unicode_text, transform_text, private_text}
use Rattle.icu_locale_core_grammar.specs.Collections.{contains_text}
use Rattle.icu_locale_core_grammar.specs.LanguagePart.{LanguageId}
use Rattle.icu_locale_core_grammar.specs.Meaning.{Part, ExtensionMeanings, put_part, no_extensions}
use Rattle.icu_locale_core_grammar.specs.Stepping.{InHead, InFront, InBlock, InPrivate, whole_after, after_front, after_block}
use Rattle.icu_locale_core_grammar.specs.TagStages.{BodyStage, InUnicode, InTransform, InOther, TagStage, language_after, language_ends, body_after, body_ends, opens, opened_at, stage_behind, tag_after, tag_fault}
use Rattle.icu_locale_core_grammar.specs.declared.error.ParseError.TheVariants.{InvalidExtension, DuplicatedExtension}
use Rattle.icu_locale_core_grammar.proofs.CaseLemmas.{singleton_lower}
use Rattle.icu_locale_core_grammar.proofs.CollectionLemmas.{same_text_equal}
use Rattle.icu_locale_core_extensions.specs.BodyView.{body_view}
use Rattle.icu_locale_core_extensions.specs.Allocation.{body_grows_at, body_keeps}
use Rattle.icu_locale_core_extensions.specs.declared.body.BodyStage as code
use Rattle.icu_locale_core_locale.specs.Allocation.{tag_grows_at, tag_keeps}
use Rattle.icu_locale_core_locale.specs.StageView.{HasEnded, HasFewBefore, block_view}

pub language_goes_on : (id : LanguageId) (p : Text) (o : Option TagStage) → language_after (Some id) p ≡ None → stage_behind id [] no_extensions p ≡ o → tag_after (InFront (Some id)) p ≡ o
unfolding whole_after
language_goes_on id p o none e =
    ap (λ x. after_front language_after language_ends body_after body_ends opens put_part no_extensions is_private is_private_piece x (Some id) p) none ∙ e

pub block_goes_on : (id : LanguageId) (seen : List Text) (e : ExtensionMeanings) (k : Text) (b : BodyStage) (v : Part) (p : Text) (o : Option TagStage)
    → body_after b p ≡ None → body_ends b ≡ Some v → stage_behind id (seen ++ k ∷ []) (put_part k v e) p ≡ o → tag_after (InBlock id seen e k b) p ≡ o
unfolding whole_after
block_goes_on id seen e k b v p o none ends f =
    ap (λ x. after_block language_after language_ends body_after body_ends opens put_part no_extensions is_private is_private_piece id seen e k x (body_ends b) p) none
    ∙ ap (λ y. after_block language_after language_ends body_after body_ends opens put_part no_extensions is_private is_private_piece id seen e k None y p) ends
    ∙ f

pub ended_goes_on : (id : LanguageId) (seen now : List Text) (e after : ExtensionMeanings) (k : Text) (b : BodyStage) (p : Text) (o : Option TagStage)
    → body_after b p ≡ None → HasEnded seen now e after k b → stage_behind id now after p ≡ o → tag_after (InBlock id seen e k b) p ≡ o
ended_goes_on id seen now e after k b p o none ended f =
    block_goes_on id seen e k b ended.part p o none ended.ends
    (ap (λ s. stage_behind id s (put_part k ended.part e) p) (sym ended.come) ∙ ap (λ x. stage_behind id now x p) (sym ended.put) ∙ f)

-- ---- a piece of another length ends no extension

spelled_single : (w p : Text) → is_singleton w ≡ true → is_singleton p ≡ false → spells w p ≡ false
spelled_single w p single longer = by (spells w p) refl
  where
    by : (b : Bool) → spells w p ≡ b → b ≡ false
    by false e = refl
    by true e = absurd (false≢true (sym longer ∙ sym (singleton_lower p) ∙ sym (ap is_singleton (same_text_equal w (lower p) e)) ∙ single))

nothing_opened : (p : Text) → is_singleton p ≡ false → opens p ≡ None
nothing_opened p longer = (
    λ i. if spelled_single unicode_text p refl longer i then Some (InUnicode (InHead []))
    else (if spelled_single transform_text p refl longer i then Some (InTransform (InHead None))
    else (if (longer i && not (is_unicode p || (is_transform p || is_private p))) then Some (InOther []) else None)))

nothing_behind : (id : LanguageId) (seen : List Text) (e : ExtensionMeanings) (p : Text) → is_singleton p ≡ false → stage_behind id seen e p ≡ None
nothing_behind id seen e p longer = (
    λ i. if spelled_single private_text p refl longer i then Some (InPrivate id e [])
    else (if contains_text (lower p) seen then None else opened_at id seen e (lower p) (nothing_opened p longer i)))
    ∙ either_none (contains_text (lower p) seen)
  where
    either_none : (b : Bool) → (if b then None else opened_at id seen e (lower p) None) ≡ None
    either_none true = refl
    either_none false = refl

pub longer_refused : (id : LanguageId) (seen : List Text) (e : ExtensionMeanings) (k : Text) (b : BodyStage) (p : Text) → body_after b p ≡ None → is_singleton p ≡ false → tag_after (InBlock id seen e k b) p ≡ None
unfolding whole_after
longer_refused id seen e k b p none longer = by (body_ends b) refl
  where
    by : (o : Option Part) → body_ends b ≡ o → tag_after (InBlock id seen e k b) p ≡ None
    by (Some v) ends = block_goes_on id seen e k b v p None none ends (nothing_behind id (seen ++ k ∷ []) (put_part k v e) p longer)
    by None ends =
        ap (λ x. after_block language_after language_ends body_after body_ends opens put_part no_extensions is_private is_private_piece id seen e k x (body_ends b) p) none
        ∙ ap (λ y. after_block language_after language_ends body_after body_ends opens put_part no_extensions is_private is_private_piece id seen e k None y p) ends

pub longer_invalid : (id : LanguageId) (seen : List Text) (e : ExtensionMeanings) (k : Text) (b : BodyStage) (p : Text) → is_singleton p ≡ false → InvalidExtension ≡ tag_fault (InBlock id seen e k b) (Some p)
longer_invalid id seen e k b p longer =
    sym
    (ap (λ s. if (is_some (body_ends b) && (s && contains_text (lower p) (seen ++ k ∷ []))) then DuplicatedExtension else InvalidExtension) longer
    ∙ never (is_some (body_ends b)))
  where
    never : (b : Bool) → (if (b && false) then DuplicatedExtension else InvalidExtension) ≡ InvalidExtension
    never true = refl
    never false = refl

-- ---- memory in an extension

-- an extension that wants no memory at a piece wants none in its body
pub body_small : (id : LanguageId) (seen : List ℕ) (e : ExtensionMeanings) (b : code.BodyStage) (filled : Bool) (p : Text) → tag_grows_at (block_view id seen e b filled) p ≡ false → body_grows_at (body_view b) p ≡ false
body_small id seen e b true p none = (or_parts (body_grows_at (body_view b) p) (is_singleton p && body_keeps (body_view b)) none).0
body_small id seen e b false p none = none

-- nor, after a first piece, for its end, where the piece may end it
pub end_small : (id : LanguageId) (seen : List ℕ) (e : ExtensionMeanings) (b : code.BodyStage) (filled : Bool) (p : Text) → filled ≡ true → tag_grows_at (block_view id seen e b filled) p ≡ false
    → (is_singleton p && body_keeps (body_view b)) ≡ false
end_small id seen e b true p is none = (or_parts (body_grows_at (body_view b) p) (is_singleton p && body_keeps (body_view b)) none).1
end_small id seen e b false p is none = cc

pub last_small : (id : LanguageId) (seen : List ℕ) (e : ExtensionMeanings) (b : code.BodyStage) (filled : Bool) → filled ≡ true → tag_keeps (block_view id seen e b filled) ≡ false → body_keeps (body_view b) ≡ false
last_small id seen e b true is none = none
last_small id seen e b false is none = cc

-- and there is room for its singleton
pub few_seen : (id : LanguageId) (seen : List ℕ) (e : ExtensionMeanings) (b : code.BodyStage) (filled : Bool) → HasFewBefore (block_view id seen e b filled) → length seen < 36
few_seen id seen e b true few = subst (λ n. n < 36) (length-map seen (λ c. c ∷ [])) few
few_seen id seen e b false few = subst (λ n. n < 36) (length-map seen (λ c. c ∷ [])) few
