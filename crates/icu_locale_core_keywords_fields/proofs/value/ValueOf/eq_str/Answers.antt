use Rattle.writeable.proofs.AnnotatedTextLemmas.{text_of_bytes}
use Rattle.icu_locale_core_keywords_fields.proofs.TextLemmas.{told_equal}
use Rattle.icu_locale_core_keywords_fields.proofs.value.ValueOf.eq_str.Goals as goal

pub returns : goal.returns
returns g c = told_equal _ _ _ _ _ _ (text_of_bytes _) c.as_bytes.ensures.value c.strict_cmp.ensures c.is_eq.ensures
