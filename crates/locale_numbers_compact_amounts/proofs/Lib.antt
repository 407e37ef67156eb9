pub mod AmountLemmas
pub mod FaultLemmas
pub mod SlotLemmas
mod KnownValues
mod KnownEntries
