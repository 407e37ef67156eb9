use Rattle.std.proofs.Common.{sym}
use Rattle.icu_locale_core_keywords_fields.proofs.PlaceLemmas.{value_index, value_missing}
use Rattle.icu_locale_core_keywords_fields.proofs.entries.EntriesOf.get.Goals as goal

pub returns-in-Ok : goal.returns-in-Ok
returns-in-Ok g c = let found = c.in-Ok.ensures in value_index _ _ _ found c.index.result.now (rw c.self.view_is at c.index.ensures)

pub returns-in-Err : goal.returns-in-Err
returns-in-Err g c = let missing = c.in-Err.ensures in sym (value_missing _ _ _ missing)
