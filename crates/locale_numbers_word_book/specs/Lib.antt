-- What a reader must believe: which texts are words, and why the others are refused.
pub mod WordTexts
pub mod WordErrors
-- What a reader must believe: the words and the formatters that are found for a tag.
pub mod WordLocales
pub mod TagWords
pub mod WordFormats
-- Statements of laws.
pub mod WordBookLaws
