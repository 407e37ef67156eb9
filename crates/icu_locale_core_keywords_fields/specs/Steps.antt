-- One step of a reader, which is that of every type of subtags.
-- Defined in docs/tags.md, "Stages".
-- Cited by the functions that step.
pub use Rattle.icu_locale_core_subtags.specs.Steps.{IsStep}
