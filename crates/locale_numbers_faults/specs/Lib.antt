-- What a reader must believe: the number and the word of each fault.
pub mod BookError
