pub mod DecimalOfText
pub mod GatheredDigits
pub mod PlainReading
pub mod Readable
pub mod ReadErrors
pub mod ReadingLaws
