use Rattle.icu_locale_core_grammar.specs.LanguagePart.{MeansLanguage}
use Rattle.icu_locale_core_grammar.specs.Pieces.{pieces}
use Rattle.icu_locale_core_grammar.proofs.PartPlain.{language_is_plain}
use Rattle.icu_locale_core_langid.specs.LanguageText.{language_text}
use Rattle.icu_locale_core_langid.proofs.NormalizingLemmas.{normalized, plain_utf8, wanted}
use Rattle.icu_locale_core_langid.proofs.language_identifier.LanguageIdentifier.normalize_utf8.Goals as goal

pub returns-clause-value : goal.returns-clause-value
returns-clause-value c =
    normalized (MeansLanguage (pieces c.args.input.now)) language_text c.args.input.now _ c.in_ok-id.ensures.value c.text_or_input.result c.text_or_input.ensures.text

pub returns-clause-room : goal.returns-clause-room
returns-clause-room c = λ none.
    let meant = c.in_ok-id.ensures.value in
    wanted (MeansLanguage (pieces c.args.input.now)) language_text c.args.input.now _ meant c.text_or_input.result
    (plain_utf8 c.args.input.now (language_is_plain (pieces c.args.input.now) _ meant)) c.text_or_input.ensures.room
