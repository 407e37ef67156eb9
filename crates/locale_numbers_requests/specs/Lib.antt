-- What a reader must believe: request lines, and the words that refuse them.
pub mod Digits
pub mod FormField
pub mod Increments
pub mod RangeEnds
pub mod Request
pub mod RoundingField
pub mod Refusal
pub mod UnitWord
-- Of `locale_numbers_formats`: the pieces of a line.
pub use Rattle.locale_numbers_formats.specs.Cutting
-- Statements of laws.
pub mod Laws
pub mod OldRequests
