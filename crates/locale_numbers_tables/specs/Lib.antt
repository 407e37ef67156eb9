-- What a reader must believe: what each field and each entry says, and the table that entries make.
pub mod Fields
pub mod Entries
pub mod RulesEntries
pub mod CompactEntries
pub mod Keys
-- What a reader must believe: the first fault of an array, its number and its word.
pub mod Faults
pub use Rattle.locale_numbers_faults.specs.BookError
-- What hashes the keys of a table.
pub mod Seeding
-- What a law makes needless to believe: the meaning of a tag as a function.
pub mod TagReading
-- What private steps follow.
pub mod Telling
pub mod CompactSteps
pub mod Allocation
pub mod Adding
