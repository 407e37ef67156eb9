use Rattle.std.proofs.Common.{◌∙◌, ap, sym}
use Rattle.icu_decimal_plain.specs.BorrowedTables.{borrowed_tables}
use Rattle.icu_decimal_plain.specs.PlainText.{Tables}
use Rattle.icu_decimal_lenient.specs.LenientReading.{lenient_reading}
use Rattle.icu_decimal_lenient.proofs.LenientLemmas.{exact_is_lenient}
use Rattle.icu_decimal_lenient.proofs.lenient.LenientTables.answer.Goals as goal

pub returns-in-Ok-clause-reading : goal.returns-in-Ok-clause-reading
returns-in-Ok-clause-reading c =
    ap (λ (t : Tables). lenient_reading t c.args.text.now) (sym c.self.view_is)
    ∙ exact_is_lenient (borrowed_tables c.self.inside.tables) c.args.text.now c.in-Ok.number c.in-Ok.ensures.reading
