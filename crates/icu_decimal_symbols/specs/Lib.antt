pub mod Cow
pub mod DataErrors
pub mod Options
pub mod SameSymbols
pub mod SameSymbolsLaws
pub mod Symbols
