pub mod FeedLemmas
pub mod GrowsLemmas
pub mod KnownValues
pub mod LinesLemmas
pub mod OutcomeLemmas
pub mod ProgressLemmas
pub mod RefusalLemmas
pub mod WriteLemmas
