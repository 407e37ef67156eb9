pub mod Laid
pub mod LaidText
pub mod Numbers
