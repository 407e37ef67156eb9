pub mod CurrencyCodes
pub mod FractionLaws
pub mod FractionMemory
pub mod FractionRounding
pub mod Fractions
pub mod RoundedDigit
