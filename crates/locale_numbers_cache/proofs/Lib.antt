pub mod CachedLemmas
pub mod KeptForLemmas
pub mod KnownValues
pub mod LastReadLemmas
pub mod LawsLemmas
pub mod RecentLemmas
