use Rattle.std.proofs.Common.{refl}
use Rattle.icu_locale_core_keywords_fields.proofs.PlaceLemmas.{value_taken, set_replaced, rises_replaced}
use Rattle.icu_locale_core_keywords_fields.proofs.entries.EntriesOf.value_at_mut.Goals as goal

pub invariant_of-self-lent : goal.invariant_of-self-lent
invariant_of-self-lent g c w = rises_replaced _ _ _ _ _ c.self.view_is c.requires c.index_mut-entry.result.now c.index_mut-entry.ensures.value w refl c.self.invariant

pub returns : goal.returns
returns g c = (
  (refl, λ w. set_replaced _ _ _ _ _ c.self.view_is c.requires c.index_mut-entry.result.now c.index_mut-entry.ensures.value w refl),
  record { writes_back = tt; value = value_taken _ _ _ _ c.self.view_is c.requires c.index_mut-entry.result.now c.index_mut-entry.ensures.value },
)
