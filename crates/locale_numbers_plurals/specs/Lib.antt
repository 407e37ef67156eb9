-- What a reader must believe: what an entry of ranges says, both arrays as tables, and arrays in a value.
pub mod RangesEntries
pub mod Plurals
pub mod Form
