pub mod CutLemmas
pub mod KnownValues
pub mod ListedLemmas
pub mod NumberLemmas
pub mod OperandsLemmas
pub mod PieceLemmas
pub mod RulesLemmas
