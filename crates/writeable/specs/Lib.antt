-- what a reader must believe
pub mod AnnotatedText
pub mod Affixed
pub mod Taking
pub mod LengthHint
pub mod Numbers
pub mod Order
pub mod Shown
-- what a contract sees of a type
pub mod PartName
pub mod PartText
pub mod HeldCount
pub mod HeldParts
pub mod HeldText
pub mod ListedParts
pub mod TakenText
-- laws of the implementations
pub mod SinkLaws
-- statements of laws
pub mod Laws
