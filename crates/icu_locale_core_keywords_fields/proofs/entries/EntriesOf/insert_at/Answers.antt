use Rattle.icu_locale_core_keywords_fields.proofs.PlaceLemmas.{put_inserted, rises_inserted}
use Rattle.icu_locale_core_keywords_fields.proofs.entries.EntriesOf.insert_at.Goals as goal

pub invariant_of-self-2 : goal.invariant_of-self-2
invariant_of-self-2 g c = rises_inserted _ _ _ _ _ c.self.view_is c.requires _ c.in-Ok.ensures.items c.self.invariant

pub returns-clause-ok : goal.returns-clause-ok
returns-clause-ok g c = put_inserted _ _ _ _ _ c.self.view_is c.requires _ c.in-Ok.ensures.items
