use Rattle.icu_locale_core_langid.proofs.SingleLawLemmas.{modes_same, keywordless_same}
use Rattle.icu_locale_core_langid.proofs.single.laws.modes_agree.Goals as goal

pub returns : goal.returns
returns c = record { whole = modes_same; keywordless = keywordless_same }
