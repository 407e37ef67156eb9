use Rattle.icu_locale_core_keywords_fields.proofs.RisingLemmas.{Rises-retained}
use Rattle.icu_locale_core_keywords_fields.proofs.retaining.EntriesOf+unicode+KeyRule.retain_by_key.Goals as goal

pub invariant_of-self : goal.invariant_of-self
invariant_of-self g c = Rises-retained c.retain_pairs.ensures c.self.invariant
