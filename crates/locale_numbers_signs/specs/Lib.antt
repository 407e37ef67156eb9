-- What a reader must believe: the signs of a locale, what an entry says of them, what is wrong with one, and which are taken.
pub mod NumberSigns
pub mod SignsEntries
pub mod SignChoice
