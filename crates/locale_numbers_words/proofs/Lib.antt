mod KnownValues
pub mod CutLemmas
pub mod EntryLemmas
pub mod FaultLemmas
pub mod FilesLemmas
pub mod FoundLemmas
pub mod SlotsLemmas
pub mod UnitNameLemmas
pub mod UnitsLemmas
pub mod WordsLemmas
