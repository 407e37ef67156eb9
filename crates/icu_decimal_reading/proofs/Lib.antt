pub mod GatheredLemmas
pub mod KnownValues
pub mod LawLemmas
pub mod NumberLemmas
pub mod PlainLemmas
pub mod ReadingLemmas
pub mod ScanLemmas
pub mod StepLemmas
