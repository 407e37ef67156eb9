use Rattle.legumeyet_c_values.specs.Numbers.{given_of}
use Rattle.legumeyet_c_values.proofs.NumbersLemmas.{change_fault_other}
use Rattle.locale_numbers_formatter.specs.FormatText.{fractions_in}
use Rattle.legumeyet_c.specs.Worded.{IsText, IsTextFault}
use Rattle.legumeyet_c.specs.Writing.{Asked, GivesNumber, IsNumberRefused, asked_for}
use Rattle.legumeyet_c.proofs.AskedLemmas.{gives_number, refuses_number, ungiven, written}
use Rattle.legumeyet_c.proofs.format_writer.write_given.Goals as goal

pub returns-in-Ok : goal.returns-in-Ok
returns-in-Ok c =
    let number = given_of c.args.number in
    let asked : Asked = asked_for c.args.lent.now c.args.options.now in
    written IsText IsTextFault (GivesNumber number) (IsNumberRefused number) asked c.assign_changed.new.number _ _ _ _ _
    (gives_number number asked c.fractions.result c.assign_changed.new.number c.fractions.ensures c.in-Ok.ensures.value)
    c.put_text.ensures

pub returns-in-Err : goal.returns-in-Err
returns-in-Err c =
    let number = given_of c.args.number in
    let asked : Asked = asked_for c.args.lent.now c.args.options.now in
    let refused = refuses_number number asked c.fractions.result c.in-Err.error c.fractions.ensures c.in-Err.ensures.fault in
    ungiven IsText IsTextFault (GivesNumber number) (IsNumberRefused number) asked _ _ c.in-Err.error
    (change_fault_other asked.options (fractions_in asked.wording.tables) number c.in-Err.error refused) refused
