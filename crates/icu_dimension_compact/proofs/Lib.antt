pub mod AmountTableLemmas
pub mod CompactAmountLemmas
mod AmountRowLemmas
mod KnownValues
