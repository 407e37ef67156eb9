use Rattle.std.proofs.Common.{refl, lit≤}
use Rattle.tinystr.specs.SmallText.{padded}
use Rattle.icu_locale_core_subtags.proofs.rules.language.LanguageDefault.default.Goals as goal

pub invariant_of-result : goal.invariant_of-result
unfolding padded
invariant_of-result c = record { small = record { short = lit≤ tt; ascii = refl }; rest = refl }
