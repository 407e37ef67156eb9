pub mod DigitText
pub mod DigitWord
pub mod Packed
