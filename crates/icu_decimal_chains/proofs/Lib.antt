pub mod ChainLemmas
pub mod NextLemmas
pub mod KnownChains
