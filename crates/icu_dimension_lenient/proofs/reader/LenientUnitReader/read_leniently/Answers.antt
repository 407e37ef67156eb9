use Rattle.std.proofs.Common.{subst}
use Rattle.icu_decimal_reading.specs.DecimalOfText.{IsAnswered}
use Rattle.icu_dimension_lenient.specs.HeldPairs.{unit_of}
use Rattle.icu_dimension_lenient.specs.LenientUnits.{LenientTexts, typed_unit_reading}
use Rattle.icu_dimension_lenient.proofs.UnitSteps.{kept_answers}
use Rattle.icu_dimension_lenient.proofs.reader.LenientUnitReader.read_leniently.Goals as goal

pub returns-clause-reading : goal.returns-clause-reading
returns-clause-reading c =
    let inside : LenientTexts = record { reader = c.self.inside.exact; folded = unit_of c.self.inside.texts } in
    subst (λ a. IsAnswered c.read_typed.result (typed_unit_reading a.reader.tables a.folded c.args.text.now)) c.self.view_is
    (kept_answers inside c.self.inside.kept c.args.text.now c.read_typed.result c.self.invariant.tables c.read_typed.ensures.reading)
