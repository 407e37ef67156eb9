mod KnownValues
pub mod FirstLemmas
pub mod TimesLemmas
