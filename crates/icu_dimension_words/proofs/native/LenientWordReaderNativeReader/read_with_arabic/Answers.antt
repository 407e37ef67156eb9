use Rattle.std.proofs.Common.{subst, ◌∙◌}
use Rattle.icu_decimal_reading.specs.DecimalOfText.{IsAnswered}
use Rattle.icu_decimal_plain.specs.PlainText.{Tables}
use Rattle.icu_dimension_words.specs.LenientWords.{LenientWords}
use Rattle.icu_dimension_words.specs.NativeWords.{arabic_words_reading}
use Rattle.icu_dimension_words.proofs.native.LenientWordReaderNativeReader.read_with_arabic.Goals as goal

pub returns-clause-reading : goal.returns-clause-reading
returns-clause-reading c =
    subst (λ (a : LenientWords). IsAnswered c.read_arabic.result (arabic_words_reading a.settings.tables a.typed c.args.text.now)) c.self.view_is
    (subst (λ (t : Tables). IsAnswered c.read_arabic.result (arabic_words_reading t c.self.inside.typed.words.items c.args.text.now)) (c.tables.ensures ∙ c.self.invariant.tables) c.read_arabic.ensures.reading)
