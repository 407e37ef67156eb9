pub mod Direct
pub mod FewDigits
pub mod HeldUnits
pub mod Lanes
pub mod Short
pub mod TextDigits
pub mod TextTables
pub mod UnitTexts
