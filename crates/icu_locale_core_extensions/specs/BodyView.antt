-- What the definitions see of the stage of an extension that is being read, and of an extension that was read.
-- Defined in docs/tags.md, "Stages".
-- Cited by the functions that step along the pieces of an extension.
use Rattle.std.specs.Prelude.{◌≡◌, Bool, true, false}
use Rattle.icu_locale_core_grammar.specs.Subtags.{Text, unicode_text, transform_text}
use Rattle.icu_locale_core_grammar.specs.Meaning as meaning
use Rattle.icu_locale_core_grammar.specs.TagStages as stages
use Rattle.icu_locale_core_subtags.specs.declared.step.Step.{Step}
use Rattle.icu_locale_core_subtags.specs.declared.step.Step.TheVariants.{Taken, Refused}
use Rattle.icu_locale_core_keywords_fields.specs.HeadedView.{headed_view}
use Rattle.icu_locale_core_extensions.specs.ExtensionsValue.{ExtensionsValue}
use Rattle.icu_locale_core_extensions.specs.declared.body.BodyStage.{BodyStage}
use Rattle.icu_locale_core_extensions.specs.declared.body.BodyStage.TheVariants.{InUnicode, InTransform, InOther}
use Rattle.icu_locale_core_extensions.specs.declared.body.Part.{Part}
use Rattle.icu_locale_core_extensions.specs.declared.body.Part.TheVariants.{Unicode, Transform, Other}

abbrev pub body_view : BodyStage → stages.BodyStage
body_view (InUnicode s) = stages.InUnicode (headed_view s)
body_view (InTransform s) = stages.InTransform (headed_view s)
body_view (InOther own) = stages.InOther own.1

-- the singleton of the extension, in lower case
abbrev pub body_key : BodyStage → Text
body_key (InUnicode s) = unicode_text
body_key (InTransform s) = transform_text
body_key (InOther own) = own.0

-- a step leaves the singleton
abbrev pub KeepsKey : Text → Step BodyStage → Type 0
KeepsKey key (Taken b) = body_key b ≡ key
KeepsKey key (Refused b) = body_key b ≡ key

abbrev pub part_view : Part → meaning.Part
part_view (Unicode u) = meaning.Part.unicode u
part_view (Transform t) = meaning.Part.transform t
part_view (Other own) = meaning.Part.other own.1

-- an extension that has no rule of its own has this singleton
abbrev pub HasKey : Text → Part → Type 0
HasKey key (Unicode u) = Unit {0}
HasKey key (Transform t) = Unit {0}
HasKey key (Other own) = own.0 ≡ key

-- an extension that has no rule of its own
abbrev pub is_other_part : Part → Bool
is_other_part (Unicode u) = false
is_other_part (Transform t) = false
is_other_part (Other own) = true

-- the extensions with one more, of this singleton
abbrev pub put_extension : Text → Part → ExtensionsValue → ExtensionsValue
put_extension key part e = record { blocks = meaning.put_part key (part_view part) e.blocks; own = e.own }
