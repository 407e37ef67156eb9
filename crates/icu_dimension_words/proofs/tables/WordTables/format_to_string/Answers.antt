use Rattle.std.proofs.Common.{◌≡◌, ◌∙◌, ap, subst, IfOk, string_bytes}
use Rattle.writeable.specs.AnnotatedText.{text_of}
use Rattle.icu_dimension_words.specs.HeldWords.{settings_of}
use Rattle.icu_dimension_words.specs.WordsText.{words_events}
use Rattle.icu_dimension_words.proofs.WordsTextLemmas.{words_are_text}
use Rattle.icu_dimension_words.proofs.tables.WordTables.format_to_string.Goals as goal

-- the text that the events write
pub returns : goal.returns
returns c =
    subst (λ written. IfOk c.write_to_string.result (λ text. string_bytes text ≡ written))
    (ap (λ formatted. text_of (words_events formatted)) c.format.ensures ∙ words_are_text (settings_of c.args.self.now) c.args.value.now)
    c.write_to_string.ensures.ok
