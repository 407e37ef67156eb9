pub mod AskedLemmas
pub mod DigitsLemmas
mod KnownValues
pub mod MagnitudeLemmas
pub mod OldRequestsLemmas
pub mod RangeLemmas
pub mod RequestLemmas
