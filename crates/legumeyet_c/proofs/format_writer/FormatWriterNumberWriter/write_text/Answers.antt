use Rattle.std.proofs.Common.{◌≡◌, IfSome, Option, ◌∙◌, subst}
use Rattle.icu_decimal_direct.specs.TextDigits.{number_spelled}
use Rattle.icu_decimal_direct.specs.TextTables.{text_tables}
use Rattle.icu_decimal_direct.specs.declared.TextTables.{TextTables}
use Rattle.legumeyet_c.specs.Writing.{asked_for, asked_plainly}
use Rattle.legumeyet_c.proofs.DirectLemmas.{plainly_put}
use Rattle.legumeyet_c.proofs.format_writer.FormatWriterNumberWriter.write_text.Goals as goal

pub returns-in-Some-of : goal.returns-in-Some-of
returns-in-Some-of c =
    let tables = text_tables c.in-Some.texts in
    let same : asked_plainly tables ≡ asked_for c.self.inside.lent.now c.self.inside.options.now =
    subst (λ (o : Option TextTables). IfSome o (λ texts. asked_plainly (text_tables texts) ≡ asked_for c.self.inside.lent.now c.self.inside.options.now)) c.in-Some.is c.self.invariant in
    record {
      text = plainly_put tables c.args.self.now c.args.text.now (number_spelled c.in-Some-of.digits) _ _ _ _ _ (same ∙ c.self.view_is) c.in-Some-of.ensures.reads c.put_digits.ensures;
    }
