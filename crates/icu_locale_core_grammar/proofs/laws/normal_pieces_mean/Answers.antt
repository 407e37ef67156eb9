use Rattle.icu_locale_core_grammar.proofs.NormalTags.{normal_means}
use Rattle.icu_locale_core_grammar.proofs.MeaningsAreNormal.{meaning_normal}
use Rattle.icu_locale_core_grammar.specs.NormalText.{normal}
use Rattle.icu_locale_core_grammar.proofs.laws.normal_pieces_mean.Goals as goal

pub returns : goal.returns
returns c = λ m. (normal_means m, meaning_normal (normal m) m)
