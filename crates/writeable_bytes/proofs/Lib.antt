mod KnownValues
pub mod LaidLemmas
pub mod LaidTextLemmas
