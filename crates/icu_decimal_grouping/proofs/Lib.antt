pub mod GrouperLemmas
pub mod HeldSizesLemmas
pub mod KnownValues
