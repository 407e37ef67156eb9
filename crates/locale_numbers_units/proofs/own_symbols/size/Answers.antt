use Rattle.std.proofs.Common.{sym, ◌∙◌}
use Rattle.serde_json.specs.View.{view}
use Rattle.locale_numbers_tables.specs.Fields.{size_in}
use Rattle.locale_numbers_units.proofs.OwnLemmas.{shifted}
use Rattle.locale_numbers_units.proofs.own_symbols.size.Goals as goal

pub returns : goal.returns
returns c = c.size.ensures ∙ sym (shifted size_in c.args.place (view c.args.own.now))
