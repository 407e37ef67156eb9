-- What a reader must believe.
pub mod SubtagSets
pub mod Reading
pub mod Laws
-- What the laws of comparing rest on.
pub mod Orders
-- What private calls say.
pub mod Growing
pub mod Places
