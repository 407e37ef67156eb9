pub mod Grouper
pub mod GroupLaws
pub mod HeldSizes
