-- What a reader must believe: which keys are kept, what is kept under them, and how often something was made.
pub mod Recent
pub mod Cached
-- What is kept beside a value, and beside bytes that were read.
pub mod Hashed
pub mod LastRead
-- What private steps follow.
pub mod Putting
-- Statements of laws.
pub mod Laws
