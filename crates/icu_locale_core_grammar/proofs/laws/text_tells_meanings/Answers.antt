use Rattle.icu_locale_core_grammar.proofs.NormalTags.{one_text}
use Rattle.icu_locale_core_grammar.proofs.laws.text_tells_meanings.Goals as goal

pub returns : goal.returns
returns c = one_text
