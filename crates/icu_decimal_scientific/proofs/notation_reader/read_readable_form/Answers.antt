use Rattle.std.proofs.Common.{◌≡◌, Err, ap}
use Rattle.icu_decimal_reading.specs.declared.error.ReadError.TheVariants.{NotWritten}
use Rattle.icu_decimal_scientific.specs.HeldTables.{settings_of}
use Rattle.icu_decimal_scientific.proofs.NotationLemmas.{form_text_is, no_form_shown, no_form_written}
use Rattle.icu_decimal_scientific.proofs.notation_reader.read_readable_form.Goals as goal

pub returns-in-Some-clause-value : goal.returns-in-Some-clause-value
returns-in-Some-clause-value c =
    form_text_is (settings_of c.args.tables.now) c.args.notation c.args.options c.args.text.now c.in-Ok.shown c.in-Some.form c.in-Ok.ensures.value c.in-Some.ensures.some

pub returns-in-None-clause-not_written : goal.returns-in-None-clause-not_written
returns-in-None-clause-not_written c = λ refused.
    no_form_shown (settings_of c.args.tables.now) c.args.notation c.args.options c.args.text.now c.in-Ok.shown c.are_texts.ensures c.requires c.in-Ok.ensures.value c.in-None.ensures.none

pub returns-in-Err-clause-not_written : goal.returns-in-Err-clause-not_written
returns-in-Err-clause-not_written c = λ refused.
    let same : c.in-Err.error ≡ NotWritten = cc in
    no_form_written (settings_of c.args.tables.now) c.args.notation c.args.options c.args.text.now (c.in-Err.ensures.not_written (ap Err same))
