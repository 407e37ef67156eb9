use Rattle.icu_locale_core_keywords_fields.proofs.LawLemmas.{setting_sets_one}
use Rattle.icu_locale_core_keywords_fields.proofs.laws.setting.Goals as goal

pub returns : goal.returns
returns c = setting_sets_one
