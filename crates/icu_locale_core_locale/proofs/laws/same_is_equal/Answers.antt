use Rattle.icu_locale_core_locale.specs.SameLocaleLaws.{locale_decides}
use Rattle.icu_locale_core_locale.proofs.laws.same_is_equal.Goals as goal

pub returns : goal.returns
returns c = locale_decides
