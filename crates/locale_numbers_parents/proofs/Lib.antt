pub mod PlaceLemmas
pub mod PairsLemmas
pub mod ParentsLemmas
pub mod KnownParents
