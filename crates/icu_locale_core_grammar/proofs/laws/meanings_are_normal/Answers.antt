use Rattle.icu_locale_core_grammar.proofs.MeaningsAreNormal.{meaning_normal}
use Rattle.icu_locale_core_grammar.proofs.laws.meanings_are_normal.Goals as goal

pub returns : goal.returns
returns c = meaning_normal
