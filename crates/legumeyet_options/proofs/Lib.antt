pub mod DigitsLemmas
mod KeptSayerLemmas
mod KnownNames
mod KnownValues
pub mod SayingLawsLemmas
pub mod SayingLemmas
