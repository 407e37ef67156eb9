mod KnownValues
pub mod CarriedLemmas
pub mod ExactLemmas
pub mod MagnitudeLemmas
pub mod NearestLemmas
pub mod NinesLemmas
pub mod RoundingLemmas
pub mod ShowableLemmas
pub mod ShowLemmas
pub mod ShownLemmas
pub mod TableLemmas
pub mod UnderTableLemmas
pub mod UnitLemmas
