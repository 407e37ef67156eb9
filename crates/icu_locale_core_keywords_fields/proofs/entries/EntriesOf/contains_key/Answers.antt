use Rattle.std.proofs.Common.{◌∙◌}
use Rattle.icu_locale_core_keywords_fields.proofs.PlaceLemmas.{holds_key}
use Rattle.icu_locale_core_keywords_fields.proofs.entries.EntriesOf.contains_key.Goals as goal

pub returns : goal.returns
returns g c = c.is_ok.ensures.value ∙ holds_key c.args.key.now c.args.self.now c.place_of.result c.place_of.ensures
