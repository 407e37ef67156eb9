-- What a reader must believe.
pub mod Categories
pub mod Operands
pub mod Conditions
pub mod ExactNumbers
pub mod Rules
pub mod ListedRules
pub mod Tokens
pub mod ConditionGrammar
pub mod Reading
-- What serves proofs alone.
pub mod HeldCategories
pub mod PieceSteps
