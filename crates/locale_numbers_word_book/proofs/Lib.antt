pub mod BookTextLemmas
pub mod WordBookLemmas
pub mod WordLocaleLemmas
pub mod WordTextLemmas
