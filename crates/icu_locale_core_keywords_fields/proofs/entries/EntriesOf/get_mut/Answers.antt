use Rattle.std.proofs.Common.{refl, sym}
use Rattle.icu_locale_core_keywords_fields.proofs.PlaceLemmas.{value_missing}
use Rattle.icu_locale_core_keywords_fields.proofs.entries.EntriesOf.get_mut.Goals as goal

pub returns-in-Err : goal.returns-in-Err
returns-in-Err g c = let missing = c.in-Err.ensures in (refl, record { writes_back = tt; value = sym (value_missing _ _ _ missing) })
