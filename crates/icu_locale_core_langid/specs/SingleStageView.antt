-- What the definitions see of the stage of a tag that is being read.
-- Defined in docs/tags.md, "Stages".
-- Cited by the functions that read tags of at most one variant and one keyword piece by piece.
use Rattle.std.specs.Prelude.{◌≡◌, None, Some, option_map}
use Rattle.std.specs.declared.result.Result.{Result}
use Rattle.std.specs.declared.result.Result.TheVariants.{Ok, Err}
use Rattle.icu_locale_core_grammar.specs.declared.error.ParseError.{ParseError}
use Rattle.icu_locale_core_grammar.specs.Subtags.{Text}
use Rattle.icu_locale_core_grammar.specs.SingleVariant.{SingleStage, InLanguage, AfterUnicode, AfterKey, AfterValue, single_after, single_fault}
use Rattle.icu_locale_core_langid.specs.OneVariant.{parts_id}
use Rattle.icu_locale_core_langid.specs.declared.single.stage.Stage.{Stage}
use Rattle.icu_locale_core_langid.specs.declared.single.stage.Stage.TheVariants as code

abbrev pub stage_view : Stage → SingleStage
stage_view (code.InLanguage parts) = InLanguage (option_map parts_id parts)
stage_view (code.AfterUnicode parts) = AfterUnicode (parts_id parts)
stage_view (code.AfterKey parts key) = AfterKey (parts_id parts) key
stage_view (code.AfterValue parts key value) = AfterValue (parts_id parts) key value

-- the stage after the piece p, or the fault of the stage at that piece
abbrev pub GoesOn : SingleStage → Text → Result Stage ParseError → Type 0
GoesOn s p (Ok next) = single_after s p ≡ Some (stage_view next)
GoesOn s p (Err e) = (single_after s p ≡ None) × (e ≡ single_fault s (Some p))
