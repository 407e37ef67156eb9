pub mod AmountLemmas
pub mod AnswerLineLemmas
pub mod CompactAnswerLemmas
pub mod CompactReadingLemmas
pub mod DigitChangeLemmas
pub mod ExponentLemmas
mod KnownCategories
pub mod KnownCompactAnswers
mod KnownScientificAnswers
mod KnownValues
pub mod LawsLemmas
pub mod NumberBounds
pub mod NumberReadingLemmas
pub mod PartsLemmas
pub mod ReadingLemmas
pub mod RoundedLemmas
pub mod TextLemmas
pub mod UnitAnswerLemmas
pub mod UnitFractionsLemmas
pub mod UnitLemmas
pub mod ValueLemmas
