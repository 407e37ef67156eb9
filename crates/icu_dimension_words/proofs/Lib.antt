pub mod AgreementLemmas
pub mod ClashLemmas
pub mod JustLemmas
pub mod KnownWords
pub mod ReadableLemmas
pub mod ReaderLemmas
pub mod SideLemmas
pub mod TakenLemmas
pub mod WordsTextLemmas
-- What people type.
pub mod KnownTyped
pub mod LenientWordLemmas
pub mod NativeWordLemmas
pub mod TypedReaderLemmas
pub mod SpellingLemmas
pub mod WordReadingLemmas
pub mod WordSteps
