-- What a reader must believe: the chains that parents make.
pub mod Parents
