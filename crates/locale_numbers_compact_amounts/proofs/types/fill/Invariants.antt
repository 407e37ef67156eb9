use Rattle.std.proofs.Common.{◌≡◌, drop, option_map}
use Rattle.serde_json.specs.View.{items_view}
use Rattle.locale_numbers_compact_amounts.specs.AmountEntries.{types_said}
use Rattle.locale_numbers_compact_amounts.proofs.AmountLemmas.{joined}
use Rattle.locale_numbers_compact_amounts.proofs.types.fill.Given as goal

abbrev pub invariant-loop-row : goal.invariant-loop-row
invariant-loop-row l = option_map (joined l.entries.items l.patterns.items) (types_said (items_view (drop l.row-index l.rows))) ≡ types_said (items_view l.rows)
