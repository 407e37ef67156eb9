pub mod AmountLemmas
pub mod ChangedLemmas
pub mod CuttingLemmas
pub mod DigitOrderLemmas
pub mod DigitShownLemmas
pub mod EitherLemmas
pub mod ExponentReads
pub mod IncrementLemmas
pub mod IncrementReads
mod KnownSkeletons
mod KnownValues
pub mod NormalLemmas
pub mod OlderLemmas
pub mod PieceLemmas
pub mod ReadLemmas
pub mod RoundTrip
pub mod RoundedLemmas
pub mod WordLemmas
