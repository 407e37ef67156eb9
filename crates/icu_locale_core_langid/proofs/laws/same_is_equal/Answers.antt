use Rattle.icu_locale_core_langid.specs.SameLanguageLaws.{same_decides}
use Rattle.icu_locale_core_langid.proofs.laws.same_is_equal.Goals as goal

pub returns : goal.returns
returns c = same_decides
