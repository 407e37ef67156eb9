use Rattle.std.proofs.Common.{is_some, sym, ap, ◌∙◌}
use Rattle.serde_json.specs.Find.{as_str}
use Rattle.serde_json.specs.View.{view}
use Rattle.locale_numbers_units.proofs.OwnLemmas.{shifted}
use Rattle.locale_numbers_units.proofs.own_symbols.is_text.Goals as goal

pub returns : goal.returns
returns c = c.is_text_at.ensures ∙ sym (ap is_some (shifted as_str c.args.place (view c.args.own.now)))
