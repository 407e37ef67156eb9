-- What the definitions see of the stage of a tag that is being read.
-- Defined in docs/tags.md, "Stages".
-- Cited by the functions that read whole tags.
use Rattle.std.specs.Prelude.{⊤, ◌≡◌, ◌<◌, ℕ, Bool, true, false, List, [], ◌∷◌, ◌++◌, map, length, None, Some}
use Rattle.icu_locale_core_grammar.specs.Subtags.{Text}
use Rattle.icu_locale_core_grammar.specs.LanguagePart.{LanguageId}
use Rattle.icu_locale_core_grammar.specs.Meaning.{ExtensionMeanings, Part, TagMeaning, put_part}
use Rattle.icu_locale_core_grammar.specs.Stepping.{InFront, AtBlock, InBlock, InPrivate}
use Rattle.icu_locale_core_grammar.specs.TagStages.{BodyStage as BodyMeaning, TagStage, body_ends, tag_after, tag_ends, tag_fault}
use Rattle.icu_locale_core_extensions.specs.BodyView.{body_key, body_view}
use Rattle.icu_locale_core_extensions.specs.declared.body.BodyStage.{BodyStage}
use Rattle.icu_locale_core_locale.specs.declared.parser.stage.LocaleStage.{LocaleStage}
use Rattle.icu_locale_core_locale.specs.declared.parser.stage.LocaleStage.TheVariants as code
use Rattle.icu_locale_core_locale.specs.declared.parser.attempt.Attempt.{Attempt}
use Rattle.icu_locale_core_locale.specs.declared.parser.attempt.Attempt.TheVariants.{Goes, Stops}

-- the singletons that have come, each a text of one character
abbrev pub singletons : List ℕ → List Text
singletons bs = map (λ b. b ∷ []) bs

abbrev pub block_view : LanguageId → List ℕ → ExtensionMeanings → BodyStage → Bool → TagStage
block_view id seen e b true = InBlock id (singletons seen) e (body_key b) (body_view b)
block_view id seen e b false = AtBlock id (singletons seen) e (body_key b) (body_view b)

abbrev pub stage_view : LocaleStage → TagStage
stage_view (code.InLanguage l) = InFront l
stage_view (code.InExtension s) = block_view s.id s.seen s.extensions.blocks s.body s.filled
stage_view (code.InPrivate id e own) = InPrivate id e.blocks own

-- an extension that was read has ended: its singleton and what it means are with those before it
pub record HasEnded (seen now : List Text) (before after : ExtensionMeanings) (key : Text) (body : BodyMeaning) : Type 0 where
  pub part : Part
  pub ends : body_ends body ≡ Some part
  pub come : now ≡ seen ++ key ∷ []
  pub put : after ≡ put_part key part before

-- there is room for the singleton of the extension that is read
abbrev pub HasFewBefore : TagStage → Type 0
HasFewBefore (InFront l) = ⊤
HasFewBefore (AtBlock id seen e k b) = length seen < 36
HasFewBefore (InBlock id seen e k b) = length seen < 36
HasFewBefore (InPrivate id e own) = ⊤

-- the stage after the piece p, or the fault of the stage at that piece
abbrev pub GoesOn : TagStage → Text → Attempt LocaleStage → Type 0
GoesOn s p (Goes t) = tag_after s p ≡ Some (stage_view t)
GoesOn s p (Stops e) = (tag_after s p ≡ None) × (e ≡ tag_fault s (Some p))

-- the meaning of the stage at the end, or its fault there
abbrev pub Ends : TagStage → Attempt TagMeaning → Type 0
Ends s (Goes m) = tag_ends s ≡ Some m
Ends s (Stops e) = (tag_ends s ≡ None) × (e ≡ tag_fault s None)
