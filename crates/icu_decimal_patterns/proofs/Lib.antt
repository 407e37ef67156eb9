pub mod ElementsLemmas
pub mod HintLemmas
pub mod KeptLemmas
pub mod KnownValues
pub mod OwnTableLemmas
pub mod ReadBackLemmas
pub mod SlotsLemmas
pub mod TableLemmas
