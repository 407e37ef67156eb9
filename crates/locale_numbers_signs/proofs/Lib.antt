mod KnownValues
pub mod SignsLemmas
