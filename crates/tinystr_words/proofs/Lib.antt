pub mod KnownValues
pub mod Lanes
pub mod FlagLaws
pub mod LengthLaws
pub mod CutLaws
pub mod ShortLaws
pub mod PartLaws
pub mod TitleLaws
