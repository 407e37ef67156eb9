use Rattle.std.proofs.Common.{subst}
use Rattle.icu_decimal_reading.specs.DecimalOfText.{IsAnswered}
use Rattle.icu_decimal_plain.specs.PlainText.{Tables}
use Rattle.icu_dimension_lenient.specs.HeldPairs.{unit_of}
use Rattle.icu_dimension_lenient.specs.LenientUnits.{LenientTexts}
use Rattle.icu_dimension_lenient.specs.NativeUnits.{arabic_unit_reading}
use Rattle.icu_dimension_lenient.proofs.native.LenientUnitReaderNativeReader.read_with_arabic.Goals as goal

pub returns-clause-reading : goal.returns-clause-reading
returns-clause-reading c =
    subst (λ (a : LenientTexts). IsAnswered c.read_arabic.result (arabic_unit_reading a.reader.tables a.folded c.args.text.now)) c.self.view_is
    (subst (λ (t : Tables). IsAnswered c.read_arabic.result (arabic_unit_reading t (unit_of c.self.inside.texts) c.args.text.now)) c.self.invariant.own c.read_arabic.ensures.reading)
