use Rattle.std.proofs.Common.{subst}
use Rattle.icu_decimal_reading.specs.DecimalOfText.{IsAnswered}
use Rattle.icu_dimension_affixes.specs.UnitReading.{ReaderTexts}
use Rattle.icu_dimension_lenient.specs.HeldPairs.{unit_of}
use Rattle.icu_dimension_lenient.specs.LenientUnits.{LenientTexts}
use Rattle.icu_dimension_lenient.specs.UnitReadings.{unit_reading}
use Rattle.icu_dimension_lenient.proofs.UnitReadingsLemmas.{answered}
use Rattle.icu_dimension_lenient.proofs.reader.LenientUnitReader.read_exactly.Goals as goal

pub returns-clause-reading : goal.returns-clause-reading
returns-clause-reading c =
    subst (λ (a : LenientTexts). IsAnswered c.read_readable.result (unit_reading a.reader c.args.text.now)) c.self.view_is
    (answered c.self.inside.exact c.args.text.now c.read_readable.result c.self.invariant.texts c.self.invariant.readable c.read_readable.ensures.unreadable
    c.read_readable.ensures.not_written c.read_readable.ensures.value)
