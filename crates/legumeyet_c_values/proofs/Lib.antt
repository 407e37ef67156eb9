pub mod ColumnLemmas
pub mod DoublesLemmas
pub mod FactLemmas
mod KnownFacts
mod KnownValues
pub mod LineBuffersLemmas
pub mod ListingLemmas
pub mod NumbersLemmas
pub mod PartsLemmas
pub mod PuttingLemmas
pub mod UsualLemmas
pub mod WordLemmas
