pub mod HeldWords
pub mod ReadingSteps
pub mod WordSides
pub mod Words
pub mod WordsLaws
pub mod WordsReading
pub mod WordsText
-- What people type.
pub mod HeldTypedWords
pub mod LenientWordLaws
pub mod LenientWords
pub mod NativeWordLaws
pub mod NativeWords
pub mod TypedWords
pub mod WordReadings
pub mod WordSpellings
