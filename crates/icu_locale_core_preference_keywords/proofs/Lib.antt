pub mod SubdivisionLemmas
pub mod OnePieceLemmas
pub mod KnownValues
