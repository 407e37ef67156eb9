-- One step of a reader: the stage after a piece, or the stage as it was where the piece does not fit.
-- Defined in docs/tags.md, "Stages".
-- Cited by the functions that step.
use Rattle.std.specs.Prelude.{◌≡◌, Option, None, Some}
use Rattle.icu_locale_core_grammar.specs.Subtags.{Text}
use Rattle.icu_locale_core_subtags.specs.declared.step.Step.{Step}
use Rattle.icu_locale_core_subtags.specs.declared.step.Step.TheVariants.{Taken, Refused}

-- `view` is what the definitions see of a stage of the code
abbrev pub IsStep : {S T : Type 0} → (S → Text → Option S) → (T → S) → S → Text → Step T → Type 0
IsStep after view s p (Taken t) = after s p ≡ Some (view t)
IsStep after view s p (Refused t) = (after s p ≡ None) × (view t ≡ s)
