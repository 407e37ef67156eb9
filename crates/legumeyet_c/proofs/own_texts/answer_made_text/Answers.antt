use Rattle.std.proofs.Common.{rules, w32, Ok, refl, ◌∙◌}
use Rattle.std.proofs.lemmas.Int.{to_z-of_z}
use mir.Val.{SFits}
use Rattle.icu_decimal_direct.specs.TextDigits.{number_spelled}
use Rattle.icu_decimal_direct.specs.TextTables.{text_tables}
use Rattle.legumeyet_c_values.specs.Numbers.{spelled}
use Rattle.legumeyet_c.specs.Kinds.{format_in}
use Rattle.legumeyet_c.specs.Opened.{opened}
use Rattle.legumeyet_c.specs.Worded.{IsText, IsTextFault}
use Rattle.legumeyet_c.specs.Writing.{GivesNumber, IsNumberRefused, asked_of, asked_plainly}
use Rattle.legumeyet_c.proofs.AskedLemmas.{asked_put}
use Rattle.legumeyet_c.proofs.DirectLemmas.{plainly_put}
use Rattle.legumeyet_c.proofs.own_texts.answer_made_text.Goals as goal

pub returns-in-Some : goal.returns-in-Some
returns-in-Some c =
    let fits : SFits w32 c.status_of.result = search rules in
    let number = spelled c.args.text.now in
    let tables = text_tables c.args.texts.now in
    record {
      outcome = c.put_digits.result;
      number = to_z-of_z w32 c.status_of.result fits ∙ c.status_of.ensures;
      held = asked_put IsText IsTextFault (GivesNumber number) (IsNumberRefused number) (asked_of (format_in (opened c.args.content)) c.args.words.now) (Ok (asked_plainly tables)) _ _ _ _ _
          c.requires.known
          (plainly_put tables (asked_plainly tables) c.args.text.now (number_spelled c.in-Some.digits) _ _ _ _ _ refl c.in-Some.ensures.reads c.put_digits.ensures);
    }
