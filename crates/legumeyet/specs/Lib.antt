pub mod Asking
pub mod CallFaults
pub mod ColumnTexts
pub mod Feeds
pub mod Messages
pub mod Output
pub mod Parts
pub mod Sayers
