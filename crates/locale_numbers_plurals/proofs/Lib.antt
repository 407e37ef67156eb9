mod KnownValues
pub mod PluralsLemmas
pub mod RangesLemmas
