use Rattle.std.proofs.Common.{is_some, sym, ap, ◌∙◌}
use Rattle.serde_json.specs.View.{view}
use Rattle.locale_numbers_tables.specs.Fields.{plain_text_in}
use Rattle.locale_numbers_units.proofs.OwnLemmas.{shifted}
use Rattle.locale_numbers_units.proofs.own_symbols.is_plain.Goals as goal

pub returns : goal.returns
returns c = c.has_text.ensures ∙ sym (ap is_some (shifted plain_text_in c.args.place (view c.args.own.now)))
