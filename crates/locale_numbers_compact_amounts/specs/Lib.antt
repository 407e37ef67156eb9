-- What a reader must believe: what the entries of compact amounts say, what is wrong with one, and which are taken.
pub mod AmountSlots
pub mod AmountEntries
pub mod AmountChoice
