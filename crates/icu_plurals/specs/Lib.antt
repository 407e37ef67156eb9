-- What a reader must believe.
pub mod Ranges
pub mod Laws
-- What it names of conditions, rules and operands.
pub use Rattle.icu_decimal_plurals.specs.Categories
pub use Rattle.icu_decimal_plurals.specs.ConditionGrammar
pub use Rattle.icu_decimal_plurals.specs.Conditions
pub use Rattle.icu_decimal_plurals.specs.ListedRules
pub use Rattle.icu_decimal_plurals.specs.Operands
pub use Rattle.icu_decimal_plurals.specs.Reading
pub use Rattle.icu_decimal_plurals.specs.Rules
pub use Rattle.icu_decimal_plurals.specs.Tokens
