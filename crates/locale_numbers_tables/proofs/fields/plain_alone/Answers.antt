use Rattle.std.proofs.Common.{chars, sym}
use Rattle.std.proofs.lemmas.Str.{is_utf8-from_IsUtf8}
use Rattle.std.specs.List.{list_all}
use Rattle.std.specs.Str.{is_utf8}
use Rattle.locale_numbers_tables.specs.Fields.{is_plain}
use Rattle.locale_numbers_tables.proofs.FieldLemmas.{plain_both}
use Rattle.locale_numbers_tables.proofs.fields.plain_alone.Goals as goal

pub returns-then-is_plain_text : goal.returns-then-is_plain_text
returns-then-is_plain_text c =
    let text = c.args.text.now in
    plain_both (is_utf8 text) (list_all is_plain (chars text)) text (is_utf8-from_IsUtf8 text c.utf8.text) (sym c.if-is_plain_text.ensures)
