-- What a reader must believe: texts, values of categories, what each entry says, and the first fault of an array.
pub mod Cuts
pub mod PlainTexts
pub mod UnitNames
pub mod Categories
pub mod SlotTexts
pub mod SameValues
pub mod SameUnits
pub mod Entries
pub mod Faults
pub mod WordsError
-- What a reader must believe: the tables, the files, and the words that are found.
pub mod Words
pub mod Files
pub mod FoundWords
-- Statements of laws.
pub mod FoundLaws
