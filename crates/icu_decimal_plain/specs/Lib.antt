pub mod Affixes
pub mod BorrowedTables
pub mod HeldAffixes
pub mod LaterGroups
pub mod PartIntervals
pub mod PartLaws
pub mod Pieces
pub mod PlainText
pub mod Runs
pub mod SameAffixes
pub mod SamePlain
pub mod TextLaws
-- The groups of digits, for the crates above.
pub use Rattle.icu_decimal_grouping.specs.Grouper
