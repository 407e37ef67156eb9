use Rattle.icu_locale_core_grammar.specs.Meaning.{MeansTag}
use Rattle.icu_locale_core_grammar.specs.NormalText.{normal_text}
use Rattle.icu_locale_core_grammar.specs.Pieces.{pieces}
use Rattle.icu_locale_core_grammar.proofs.PlainPieces.{tag_plain}
use Rattle.icu_locale_core_langid.proofs.NormalizingLemmas.{normalized, plain_utf8, wanted}
use Rattle.icu_locale_core_locale.proofs.locale.Locale.normalize_utf8.Goals as goal

pub returns-clause-value : goal.returns-clause-value
returns-clause-value c =
    normalized (MeansTag (pieces c.args.input.now)) normal_text c.args.input.now _ c.in_ok-locale.ensures.value c.text_or_input.result c.text_or_input.ensures.text

pub returns-clause-room : goal.returns-clause-room
returns-clause-room c = λ none.
    let meant = c.in_ok-locale.ensures.value in
    wanted (MeansTag (pieces c.args.input.now)) normal_text c.args.input.now _ meant c.text_or_input.result (plain_utf8 c.args.input.now (tag_plain (pieces c.args.input.now) _ meant))
    c.text_or_input.ensures.room
