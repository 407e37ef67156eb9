-- What a reader must believe.
pub mod Parts
pub mod Modes
pub mod LanguageText
pub mod SameLanguage
pub mod NormalizedText
pub mod Allocation
pub mod SingleModes
pub mod SingleLaws
-- What the readers follow, piece by piece.
pub mod LanguageStep
pub mod OneVariant
pub mod SingleStageView
pub mod Spelling
-- What the impls prove.
pub mod SameLanguageLaws
