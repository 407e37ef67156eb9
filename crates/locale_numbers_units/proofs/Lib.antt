pub mod FaultLemmas
pub mod AddLemmas
pub mod OwnLemmas
pub mod PatternLemmas
pub mod UnitsLemmas
pub mod EntryLemmas
pub mod CutLemmas
pub mod TextLemmas
pub mod UnitTextLemmas
pub mod KnownValues
mod KnownUnits
