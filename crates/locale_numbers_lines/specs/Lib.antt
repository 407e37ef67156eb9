-- What a reader must believe: readers and writers, lines, and what a run leaves.
pub mod ByteIo
pub mod Tracking
pub mod Lines
pub mod Outcomes
pub mod Run
-- What private steps follow, and what an answerer may leave.
pub mod Growth
pub mod Progress
-- Statements of laws.
pub mod Laws
