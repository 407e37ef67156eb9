pub mod CountDigits
pub mod DigitList
pub mod InlineDigits
pub mod Rounding
pub mod RoundingSteps
pub use Rattle.fixed_decimal_digit_words.specs.DigitText
pub use Rattle.fixed_decimal_digit_words.specs.DigitWord
