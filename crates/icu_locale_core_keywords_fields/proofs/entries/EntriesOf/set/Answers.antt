use Rattle.icu_locale_core_keywords_fields.proofs.RisingLemmas.{Rises_either}
use Rattle.icu_locale_core_keywords_fields.proofs.entries.EntriesOf.set.Goals as goal

pub invariant_of-self : goal.invariant_of-self
invariant_of-self g c = Rises_either c.set_in.result (c.args.key, c.args.value) _ _ c.self.invariant c.set_in.ensures.ok c.set_in.ensures.err
