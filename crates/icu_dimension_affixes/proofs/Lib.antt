pub mod KnownValues
pub mod PlaceLemmas
pub mod ReaderLemmas
pub mod UnitReadingLemmas
pub mod UnitTextLemmas
