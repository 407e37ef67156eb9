-- What a reader must believe.
pub mod Subtags
pub mod Pieces
pub mod Collections
pub mod LanguagePart
pub mod Extensions
pub mod Meaning
pub mod FaultyPiece
pub mod FaultNumber
pub mod NormalText
pub mod WellFormed
pub mod PartReaders
pub mod PartialReading
pub mod TagPreferences
pub mod SamePreferences
pub mod DataTags
pub mod SingleVariant
pub mod TagOrder
pub mod PreferenceChanges
-- What the readers follow, piece by piece.
pub mod Stepping
pub mod TagStages
pub mod KnownRows
-- Statements of laws.
pub mod CollectionLaws
pub mod TagLaws
pub mod PartLaws
pub mod OrderLaws
pub mod PreferenceLaws
