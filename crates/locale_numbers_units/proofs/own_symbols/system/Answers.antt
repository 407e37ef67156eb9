use Rattle.std.proofs.Common.{sym, ◌∙◌}
use Rattle.serde_json.specs.View.{view}
use Rattle.locale_numbers_tables.specs.Fields.{system_in}
use Rattle.locale_numbers_units.proofs.OwnLemmas.{shifted}
use Rattle.locale_numbers_units.proofs.own_symbols.system.Goals as goal

pub returns : goal.returns
returns c = c.system.ensures ∙ sym (shifted system_in 0 (view c.args.own.now))
