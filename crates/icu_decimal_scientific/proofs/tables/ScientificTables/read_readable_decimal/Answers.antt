use Rattle.std.proofs.Common.{◌≡◌, Err, ap, refl}
use Rattle.icu_decimal_reading.specs.declared.error.ReadError.TheVariants.{NotWritten}
use Rattle.icu_decimal_scientific.specs.HeldTables.{settings_of}
use Rattle.icu_decimal_scientific.proofs.ScientificReadingsLemmas.{answered, refused}
use Rattle.icu_decimal_scientific.proofs.tables.ScientificTables.read_readable_decimal.Goals as goal

pub returns-in-Ok-into_decimal-clause-value : goal.returns-in-Ok-into_decimal-clause-value
returns-in-Ok-into_decimal-clause-value c = record { form = c.in-Ok.form; written = c.in-Ok.ensures.value; product = c.in-Ok-into_decimal.ensures.value }

pub returns-in-Ok-into_decimal-clause-reading : goal.returns-in-Ok-into_decimal-clause-reading
returns-in-Ok-into_decimal-clause-reading c =
    answered (settings_of c.args.self.now) c.args.notation c.args.options c.args.text.now c.are_texts.ensures c.requires c.in-Ok.form c.in-Ok-into_decimal.decimal c.in-Ok.ensures.value c.in-Ok-into_decimal.ensures.value

-- a form is a decimal
pub unreachable-requires : goal.unreachable-requires
unreachable-requires c = c.in-Err-into_decimal.ensures.range.0 refl c.in-Ok.ensures.value.shown.product

pub returns-in-Err-clause-not_written : goal.returns-in-Err-clause-not_written
returns-in-Err-clause-not_written c = λ wrong.
    let same : c.in-Err.error ≡ NotWritten = cc in
    c.in-Err.ensures.not_written (ap Err same)

pub returns-in-Err-clause-reading : goal.returns-in-Err-clause-reading
returns-in-Err-clause-reading c =
    refused (settings_of c.args.self.now) c.args.notation c.args.options c.args.text.now c.are_texts.ensures c.requires c.in-Err.error (λ same. c.in-Err.ensures.unreadable (ap Err same))
    (λ same. c.in-Err.ensures.not_written (ap Err same))
