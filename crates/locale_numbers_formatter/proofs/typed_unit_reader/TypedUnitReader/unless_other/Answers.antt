use Rattle.std.proofs.Common.{Result, Err, Some, [], ◌∷◌, sym, subst, ◌∙◌}
use Rattle.fixed_decimal.specs.Number.{Number}
use Rattle.fixed_decimal.specs.SignedValue.{SignedValue}
use Rattle.icu_decimal.specs.PlainReading.{IsAnswered, PlainReading}
use Rattle.icu_decimal.specs.declared.error.ReadError.{ReadError}
use Rattle.icu_dimension_lenient.specs.Agreement.{agreed_after}
use Rattle.icu_dimension_lenient.proofs.AgreementSteps.{refused_after}
use Rattle.locale_numbers_formatter.specs.TypedUnits.{lenient_unit_reading}
use Rattle.locale_numbers_formatter.proofs.LenientUnitLemmas.{read_unless}
use Rattle.locale_numbers_formatter.proofs.typed_unit_reader.TypedUnitReader.unless_other.Goals as goal

pub returns-in-Err-clause-reading : goal.returns-in-Err-clause-reading
returns-in-Err-clause-reading c =
    let one : PlainReading = lenient_unit_reading c.args.other.now c.args.text.now in
    let refused : Result (SignedValue Number) ReadError = Err c.in-Err.error in
    read_unless c.args.number refused c.args.self.now c.args.other.now c.args.text.now c.requires.none c.requires.typed
    (sym c.if-is_own.false ∙ c.own_text-number.ensures.own)
    (subst (λ (v : SignedValue Number). IsAnswered refused (agreed_after (Some v) (one ∷ []))) c.own_text-number.ensures.number
    (refused_after c.in-Err.error (Some c.own_text-number.result.0) one [] (c.in-Err.ensures.reading one [] c.read.ensures.reading)))
