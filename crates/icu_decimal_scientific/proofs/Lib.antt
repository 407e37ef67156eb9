mod KnownCarry
mod KnownProducts
mod KnownReadings
mod KnownShown
mod KnownTexts
pub mod KnownValues
pub mod BareLemmas
pub mod CutLemmas
pub mod DivisionLemmas
pub mod FormLawLemmas
pub mod FormLemmas
pub mod FormOfLemmas
pub mod NotationLemmas
pub mod PlaceLemmas
pub mod PowerLemmas
pub mod ProductLemmas
pub mod ReadableLemmas
pub mod ReaderLemmas
pub mod ScientificReadingLemmas
pub mod ScientificReadingsLemmas
pub mod ScientificTextLemmas
pub mod ShownExponentLemmas
pub mod ShownFormLemmas
pub mod ShownLawLemmas
pub mod SidesLemmas
