use Rattle.std.proofs.Common.{Ok, ap, inr}
use Rattle.legumeyet_c_values.proofs.NumbersLemmas.{change_fault_other}
use Rattle.locale_numbers_formatter.specs.FormatText.{fractions_in}
use Rattle.legumeyet_c.specs.Worded.{IsText, IsTextFault}
use Rattle.legumeyet_c.specs.Writing.{Asked, GivesNumber, IsNumberRefused, asked_for}
use Rattle.legumeyet_c.proofs.AskedLemmas.{asked_put, gives_number, refuses_number, ungiven, written}
use Rattle.legumeyet_c.proofs.format_writer.FormatWriterNumberWriter.write.Goals as goal

pub returns-in-Ok : goal.returns-in-Ok
returns-in-Ok c =
    let lent = c.self.inside.lent.now in
    let asked : Asked = asked_for lent c.self.inside.options.now in
    let value = c.change.new.number in
    record {
      put = λ number is.
          asked_put IsText IsTextFault (GivesNumber number) (IsNumberRefused number) (Ok c.args.self.now) (Ok asked) _ _ _ _ _ (ap (λ (a : Asked). Ok a) c.self.view_is)
          (written IsText IsTextFault (GivesNumber number) (IsNumberRefused number) asked value _ _ _ _ _
          (gives_number number asked c.fractions.result value c.fractions.ensures
          (record { given = c.args.number.now; given_is = is; changes = c.in-Ok.ensures.value }))
          c.put_text.ensures);
    }

pub returns-in-Err : goal.returns-in-Err
returns-in-Err c =
    let lent = c.self.inside.lent.now in
    let asked : Asked = asked_for lent c.self.inside.options.now in
    record {
      put = λ number is.
          let refused = refuses_number number asked c.fractions.result c.in-Err.error c.fractions.ensures
          (inr (record { given = c.args.number.now; given_is = is; is_memory = c.in-Err.ensures.fault.0; grows = c.in-Err.ensures.fault.1 })) in
          asked_put IsText IsTextFault (GivesNumber number) (IsNumberRefused number) (Ok c.args.self.now) (Ok asked) _ _ _ _ _ (ap (λ (a : Asked). Ok a) c.self.view_is)
          (ungiven IsText IsTextFault (GivesNumber number) (IsNumberRefused number) asked _ _ c.in-Err.error
          (change_fault_other asked.options (fractions_in asked.wording.tables) number c.in-Err.error refused) refused);
    }
