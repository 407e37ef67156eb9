use Rattle.std.proofs.Common.{subst}
use Rattle.icu_decimal_reading.specs.DecimalOfText.{IsAnswered}
use Rattle.icu_dimension_words.specs.HeldWords.{settings_of}
use Rattle.icu_dimension_words.specs.LenientWords.{LenientWords}
use Rattle.icu_dimension_words.specs.WordReadings.{words_reading}
use Rattle.icu_dimension_words.proofs.WordReadingLemmas.{answered}
use Rattle.icu_dimension_words.proofs.lenient_reader.LenientWordReader.read_exactly.Goals as goal

pub returns-clause-reading : goal.returns-clause-reading
returns-clause-reading c =
    subst (λ (a : LenientWords). IsAnswered c.read_readable.result (words_reading a.settings c.args.text.now)) c.self.view_is
    (answered (settings_of c.self.inside.exact) c.args.text.now c.read_readable.result c.self.invariant.texts c.self.invariant.readable c.read_readable.ensures.unreadable
    c.read_readable.ensures.not_written c.read_readable.ensures.value)
