-- What a reader must believe: what is made of a number before it is written.
pub mod Changed
pub mod DigitLaws
pub mod OlderOptions
-- And what the words of a skeleton ask for.
pub mod ExponentWords
pub mod IncrementWords
pub mod Marks
pub mod NormalText
pub mod Runs
pub mod SkeletonErrors
pub mod SkeletonFormats
pub mod SkeletonLaws
pub mod Skeletons
pub mod StemTable
pub mod Stems
-- The pieces of a text, and what is beside a word in a table.
pub mod Cutting
pub mod WordTable
-- What it goes by, which laws make needless to believe.
pub mod Rounded
pub mod AmountRounding
