use Rattle.std.proofs.Common.{sym}
use Rattle.icu_locale_core_keywords_fields.proofs.PlaceLemmas.{put_found}
use Rattle.icu_locale_core_keywords_fields.proofs.entries.EntriesOf.put_first.Goals as goal

pub returns-in-Ok-clause-ok : goal.returns-in-Ok-clause-ok
returns-in-Ok-clause-ok g c = let found = c.in-Ok.ensures in sym (put_found _ _ _ found _)
