use Rattle.std.proofs.Common.{sym, ◌∙◌}
use Rattle.serde_json.specs.View.{view}
use Rattle.locale_numbers_units.proofs.OwnLemmas.{counted}
use Rattle.locale_numbers_units.proofs.own_symbols.has_ten.Goals as goal

pub returns : goal.returns
returns c = c.has_count.ensures ∙ sym (counted (view c.args.own.now))
