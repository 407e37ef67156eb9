pub mod Folding
pub mod KeptFolds
pub mod LenientLaws
pub mod LenientReading
pub mod Native
pub mod TypedLaws
pub mod TypedReading
