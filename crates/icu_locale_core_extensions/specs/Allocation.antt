-- Where the reading of an extension may allocate: a step along its pieces, up to the first one at fault, or else its end.
-- Defined in docs/tags.md, "Parts read alone" and "Stages".
-- Cited by the readers of `u` and `t`, and by the functions that step along the pieces of an extension.
use Rattle.std.specs.Prelude.{Bool, true, false, ◌&&◌, List, [], ◌∷◌, Option, None, Some}
use Rattle.icu_locale_core_grammar.specs.Subtags.{Text, is_attribute, is_key, is_field_key, is_other_piece}
use Rattle.icu_locale_core_grammar.specs.Stepping.{InHead, headed_after}
use Rattle.icu_locale_core_grammar.specs.TagStages.{BodyStage, InUnicode, InTransform, InOther, UnicodeStage, unicode_after, TransformStage, transform_after}
use Rattle.icu_locale_core_langid.specs.Allocation as language
use Rattle.icu_locale_core_keywords_fields.specs.HeadedView.{ends_anywhere}
use Rattle.icu_locale_core_keywords_fields.specs.Allocation.{grows_at, keeps_last}

-- the piece is one more attribute, is kept in a value, or ends a keyword
abbrev pub unicode_grows_at : UnicodeStage → Text → Bool
unicode_grows_at s p = grows_at (λ set q. is_attribute q) is_key s p

-- the piece is one more variant, is kept in a value, or ends a field
abbrev pub transform_grows_at : TransformStage → Text → Bool
transform_grows_at s p = grows_at language.grows_at is_field_key s p

-- the piece is one of these, or a subtag of any other extension
abbrev pub body_grows_at : BodyStage → Text → Bool
body_grows_at (InUnicode s) p = unicode_grows_at s p
body_grows_at (InTransform s) p = transform_grows_at s p
body_grows_at (InOther own) p = is_other_piece p

-- at its end an entry is kept, or an extension that has no rule of its own
abbrev pub body_keeps : BodyStage → Bool
body_keeps (InUnicode s) = keeps_last s
body_keeps (InTransform s) = keeps_last s
body_keeps (InOther own) = true

-- the pieces after a singleton, read as a head and entries from a head that is not begun
abbrev pub headed_may_grow : {H : Type 0} → (H → Text → Option H) → (H → Text → Bool) → (Text → Bool) → Bool → H → List Text → Bool
headed_may_grow step grows is_key needs begun ps = language.grows_along (headed_after step ends_anywhere is_key needs) (grows_at grows is_key) keeps_last (Some (InHead begun)) ps

-- the pieces after `u`
abbrev pub unicode_may_grow : List Text → Bool
unicode_may_grow ps = language.grows_along unicode_after unicode_grows_at keeps_last (Some (InHead [])) ps

-- the pieces after `t`
abbrev pub transform_may_grow : List Text → Bool
transform_may_grow ps = language.grows_along transform_after transform_grows_at keeps_last (Some (InHead None)) ps

-- the first piece is the singleton, and reading those after it may allocate
abbrev pub grows_after : (Text → Bool) → (List Text → Bool) → List Text → Bool
grows_after opens may_grow [] = false
grows_after opens may_grow (p ∷ ps) = opens p && may_grow ps
