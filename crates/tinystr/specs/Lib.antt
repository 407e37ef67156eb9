-- What a reader must believe.
pub mod SmallText
pub mod Faults
pub mod FaultNumbers
pub mod Classes
pub mod Case
pub mod Lossy
pub mod Decimal
pub mod Forms
pub mod Laws
