pub mod CompactDigitsLemmas
pub mod DivisionLemmas
pub mod ExactFormLemmas
pub mod KnownOperands
mod KnownScientific
mod KnownScientificReadings
mod KnownValues
pub mod JoinedUnitLemmas
pub mod LayerLemmas
pub mod LenientLemmas
pub mod LenientUnitLemmas
pub mod PairLemmas
pub mod ReadBackLemmas
pub mod ScientificLemmas
pub mod ShownOperandsLemmas
pub mod SignificandLemmas
pub mod TypedLemmas
pub mod UnitLayerLemmas
