use Rattle.std.proofs.Common.{sym}
use Rattle.icu_locale_core_keywords_fields.proofs.PlaceLemmas.{value_taken, without_removed, rises_removed, value_missing, without_missing}
use Rattle.icu_locale_core_keywords_fields.proofs.entries.EntriesOf.remove.Goals as goal

pub invariant_of-self : goal.invariant_of-self
invariant_of-self g c = let found = c.in-Ok.ensures in rises_removed _ _ _ _ _ c.self.view_is found c.remove.ensures.items c.self.invariant

pub returns-in-Ok-clause-value : goal.returns-in-Ok-clause-value
returns-in-Ok-clause-value g c = let found = c.in-Ok.ensures in value_taken _ _ _ _ c.self.view_is found _ c.remove.ensures.value

pub returns-in-Ok-clause-rest : goal.returns-in-Ok-clause-rest
returns-in-Ok-clause-rest g c = let found = c.in-Ok.ensures in without_removed _ _ _ _ _ c.self.view_is found c.remove.ensures.items

pub returns-in-Err-clause-value : goal.returns-in-Err-clause-value
returns-in-Err-clause-value g c = let missing = c.in-Err.ensures in sym (value_missing _ _ _ missing)

pub returns-in-Err-clause-rest : goal.returns-in-Err-clause-rest
returns-in-Err-clause-rest g c = let missing = c.in-Err.ensures in sym (without_missing _ _ _ missing)
