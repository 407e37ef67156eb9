-- The stages of a tag that is being read: the language part, the pieces of an extension, the private subtags.
-- Defined in docs/tags.md, "Stages".
-- Cited by the functions that read tags, and by the law that these stages read tags and no more.
use Rattle.std.specs.Prelude.{Bool, true, false, not, ◌&&◌, List, [], ◌∷◌, ◌++◌, Option, None, Some, is_none, option_map, if◌then◌else◌}
use Rattle.icu_locale_core_grammar.specs.declared.error.ParseError.{ParseError}
use Rattle.icu_locale_core_grammar.specs.declared.error.ParseError.TheVariants.{InvalidLanguage, InvalidSubtag}
use Rattle.icu_locale_core_grammar.specs.Subtags.{Text, is_language, is_script, is_region, is_variant, is_attribute, is_key, is_field_key, is_other_piece, is_private_piece, is_unicode, is_transform, is_other, is_private, lower, title, upper}
use Rattle.icu_locale_core_grammar.specs.Collections.{contains_text, insert_text}
use Rattle.icu_locale_core_grammar.specs.LanguagePart.{LanguageId}
use Rattle.icu_locale_core_grammar.specs.Meaning.{Part, ExtensionMeanings, TagMeaning, UnicodeMeaning, TransformMeaning, keyword_needs_value, field_needs_value, put_part, no_extensions}
use Rattle.icu_locale_core_grammar.specs.Stepping.{HeadedStage, InHead, headed_after, headed_ends, WholeStage, InFront, opened, next_part, whole_after, whole_ends, stage_fault}

-- ---- the language part

abbrev pub only_language : Text → LanguageId
only_language p = record { language = lower p; script = None; region = None; variants = [] }

abbrev pub has_none : List Text → Bool
has_none [] = true
has_none (t ∷ ts) = false

-- a script comes right after the language, a region before any variant, and a variant that is not there yet anywhere
abbrev pub fits_script : LanguageId → Text → Bool
fits_script id p = (is_none id.script && (is_none id.region && has_none id.variants)) && is_script p

abbrev pub fits_region : LanguageId → Text → Bool
fits_region id p = (is_none id.region && has_none id.variants) && is_region p

abbrev pub fits_variant : LanguageId → Text → Bool
fits_variant id p = is_variant p && not (contains_text (lower p) id.variants)

abbrev pub with_script : LanguageId → Text → LanguageId
with_script id p = record { language = id.language; script = Some (title p); region = id.region; variants = id.variants }

abbrev pub with_region : LanguageId → Text → LanguageId
with_region id p = record { language = id.language; script = id.script; region = Some (upper p); variants = id.variants }

abbrev pub with_variant : LanguageId → Text → LanguageId
with_variant id p = record { language = id.language; script = id.script; region = id.region; variants = insert_text (lower p) id.variants }

unfoldable pub with_piece : LanguageId → Text → Option LanguageId
with_piece id p =
    if fits_script id p then Some (with_script id p)
    else (if fits_region id p then Some (with_region id p)
    else (if fits_variant id p then Some (with_variant id p) else None))

-- the language part so far, `None` before its first piece
abbrev pub language_after : Option LanguageId → Text → Option (Option LanguageId)
language_after None p = if is_language p then Some (Some (only_language p)) else None
language_after (Some id) p = option_map Some (with_piece id p)

-- as a front it ends once there is a language; as the head of `t` it ends anywhere
abbrev pub language_ends : Option LanguageId → Option LanguageId
language_ends id = id

abbrev pub inner_ends : Option LanguageId → Option (Option LanguageId)
inner_ends id = Some id

-- the name of the fault of a language identifier that does not go on
abbrev pub language_fault : Option LanguageId → ParseError
language_fault None = InvalidLanguage
language_fault (Some id) = InvalidSubtag

-- ---- extensions

abbrev pub attributes_after : List Text → Text → Option (List Text)
attributes_after set p = if is_attribute p then Some (insert_text (lower p) set) else None

abbrev pub attributes_end : List Text → Option (List Text)
attributes_end set = Some set

abbrev pub UnicodeStage : Type 0
UnicodeStage = HeadedStage (List Text) (List Text)

abbrev pub unicode_after : UnicodeStage → Text → Option UnicodeStage
unicode_after s p = headed_after attributes_after attributes_end is_key keyword_needs_value s p

abbrev pub unicode_ends : UnicodeStage → Option UnicodeMeaning
unicode_ends s = headed_ends attributes_end s

abbrev pub TransformStage : Type 0
TransformStage = HeadedStage (Option LanguageId) (Option LanguageId)

abbrev pub transform_after : TransformStage → Text → Option TransformStage
transform_after s p = headed_after language_after inner_ends is_field_key field_needs_value s p

abbrev pub transform_ends : TransformStage → Option TransformMeaning
transform_ends s = headed_ends inner_ends s

abbrev pub other_after : List Text → Text → Option (List Text)
other_after own p = if is_other_piece p then Some (own ++ lower p ∷ []) else None

abbrev pub other_ends : List Text → Option (List Text)
other_ends own = Some own

-- the pieces of one extension
pub data BodyStage : Type 0 where
  InUnicode : UnicodeStage → BodyStage
  InTransform : TransformStage → BodyStage
  InOther : List Text → BodyStage

unfoldable pub body_after : BodyStage → Text → Option BodyStage
body_after (InUnicode s) p = option_map InUnicode (unicode_after s p)
body_after (InTransform s) p = option_map InTransform (transform_after s p)
body_after (InOther own) p = option_map InOther (other_after own p)

abbrev pub body_ends : BodyStage → Option Part
body_ends (InUnicode s) = option_map Part.unicode (unicode_ends s)
body_ends (InTransform s) = option_map Part.transform (transform_ends s)
body_ends (InOther own) = option_map Part.other (other_ends own)

-- the stage after a singleton, for all but `x`
abbrev pub opens : Text → Option BodyStage
opens p =
    if is_unicode p then Some (InUnicode (InHead []))
    else (if is_transform p then Some (InTransform (InHead None))
    else (if is_other p then Some (InOther []) else None))

-- ---- whole tags

abbrev pub TagStage : Type 0
TagStage = WholeStage (Option LanguageId) LanguageId ExtensionMeanings BodyStage

abbrev pub tag_start : TagStage
tag_start = InFront None

-- what comes after a part that may end: `x`, or a singleton that has not come yet
abbrev pub opened_at : LanguageId → List Text → ExtensionMeanings → Text → Option BodyStage → Option TagStage
opened_at = opened language_after language_ends body_after body_ends opens put_part no_extensions is_private is_private_piece

abbrev pub stage_behind : LanguageId → List Text → ExtensionMeanings → Text → Option TagStage
stage_behind = next_part language_after language_ends body_after body_ends opens put_part no_extensions is_private is_private_piece

abbrev pub tag_after : TagStage → Text → Option TagStage
tag_after s p = whole_after language_after language_ends body_after body_ends opens put_part no_extensions is_private is_private_piece s p

abbrev pub tag_ends : TagStage → Option TagMeaning
tag_ends s = whole_ends language_ends body_ends put_part no_extensions s

-- the name of the fault at a stage that does not go on
abbrev pub tag_fault : TagStage → Option Text → ParseError
tag_fault s place = stage_fault body_ends is_none s place
