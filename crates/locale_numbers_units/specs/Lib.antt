-- What a reader must believe: what each field and each entry says, and the first fault of an array.
pub mod Fields
pub mod OwnSymbols
pub mod Patterns
pub mod Percents
pub mod Amounts
pub mod CurrencyDigits
pub mod CurrencySymbols
pub mod Faults
pub mod Units
-- Statements of laws.
pub mod UnitTexts
-- What private steps follow.
pub mod Allocation
pub mod Adding
