pub mod CodeLemmas
pub mod FractionLemmas
pub mod KnownValues
