pub mod AnnotatedTextLemmas
pub mod BalancedLemmas
pub mod CutOutLemmas
pub mod EndsLemmas
pub mod HeldLemmas
pub mod HeldPartsLemmas
mod KnownValues
pub mod LawsLemmas
pub mod ListedPartsLemmas
pub mod OrderLemmas
pub mod TakenTextLemmas
pub mod WritingLemmas
