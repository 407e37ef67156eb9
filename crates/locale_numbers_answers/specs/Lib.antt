-- What a reader must believe: what is answered to a text, by a task and a format, with what is found.
pub mod AnswerLine
pub mod NumberAnswer
pub mod UnitAnswer
pub mod UnitFractions
pub mod DigitChange
pub mod ReadAnswer
pub mod CategoryAnswer
pub mod Answers
pub mod AnswerMemory
-- What the answers go by, which a law makes needless to believe.
pub mod NumberReading
pub mod CompactReading
pub use Rattle.locale_numbers_formats.specs.Rounded
pub use Rattle.locale_numbers_formats.specs.AmountRounding
-- What private steps follow.
pub mod AnswerSink
pub mod AnswerSinkLaws
-- Statements of laws.
pub mod Laws
