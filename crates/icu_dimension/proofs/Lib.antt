pub mod ChoiceLemmas
pub mod KnownValues
