use Rattle.std.proofs.Common.{rules, ◌≡◌, ◌∙◌}
use Rattle.icu_decimal.specs.HeldTables.{tables_of}
use Rattle.locale_numbers_formatter.specs.FormatText.{plain_tables}
use Rattle.legumeyet_c_values.proofs.PuttingLemmas.{put_by, put_refused}
use Rattle.legumeyet_c.proofs.AskedLemmas.{put_with}
use Rattle.legumeyet_c.proofs.formatting.put_number.Goals as goal

pub returns-in-Plain : goal.returns-in-Plain
returns-in-Plain c =
    let is : plain_tables (tables_of c.in-Plain.plain) ≡ c.args.formatter.now = search rules in
    put_with (plain_tables (tables_of c.in-Plain.plain)) c.args.formatter.now c.args.value.now _ _ _ _ _ is c.put_plain.ensures

pub returns-then-not-can_format : goal.returns-then-not-can_format
returns-then-not-can_format c = put_refused _ _ _ _ _ (λ same. absurd (cc same)) (search rules)

pub returns-in-Ok : goal.returns-in-Ok
returns-in-Ok c =
    put_by _ _ _ _ _
    (λ text is. record { can = search rules; is = is ∙ c.in-Ok.ensures.text })
    (λ error none. absurd none)
    c.put.ensures

pub returns-in-Err : goal.returns-in-Err
returns-in-Err c = put_refused _ _ _ _ _ (λ same. absurd (cc same)) c.in-Err.ensures.room
