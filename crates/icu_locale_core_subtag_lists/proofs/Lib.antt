pub mod GrowingLemmas
pub mod PlaceLemmas
pub mod JoiningLemmas
pub mod PrintingLemmas
pub mod LawLemmas
pub mod KnownValues
