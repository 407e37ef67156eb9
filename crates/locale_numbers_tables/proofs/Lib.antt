pub mod SystemLemmas
pub mod TagLemmas
pub mod KeyLemmas
pub mod TableLemmas
pub mod FaultLemmas
mod FieldLemmas
pub mod AddLemmas
pub mod RulesLemmas
pub mod CompactLemmas
pub mod CompactFaults
pub mod SeedLemmas
pub mod KnownValues
