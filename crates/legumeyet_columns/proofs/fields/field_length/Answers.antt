use Rattle.std.proofs.Common.{◌≡◌, false, sym, ◌∙◌}
use Rattle.legumeyet_columns.specs.FieldTexts.{is_in_quotes}
use Rattle.legumeyet_columns.proofs.PlacesLemmas.{length_of_plain}
use Rattle.legumeyet_columns.proofs.fields.field_length.Goals as goal

pub returns-else-is_in_quotes-clause-value : goal.returns-else-is_in_quotes-clause-value
returns-else-is_in_quotes-clause-value c =
    let plain : is_in_quotes c.args.dialect c.args.bytes.now ≡ false = cc in
    c.plain_length.ensures.value ∙ sym (length_of_plain c.args.dialect c.args.bytes.now plain)
