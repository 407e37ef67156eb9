use Rattle.icu_locale_core_keywords_fields.proofs.ValueLemmas.{told_true}
use Rattle.icu_locale_core_keywords_fields.proofs.value.is_true_word.Goals as goal

pub returns : goal.returns
returns c = told_true c.as_str.result.now c.args.subtag.now c.eq.result c.eq.ensures c.as_str.ensures c.subtags_are_words.ensures.normal
