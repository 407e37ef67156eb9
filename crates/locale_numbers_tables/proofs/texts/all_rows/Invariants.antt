use Rattle.std.proofs.Common.{◌≡◌, drop}
use Rattle.serde_json.specs.View.{items_view}
use Rattle.locale_numbers_tables.specs.CompactEntries.{each, is_plain_row}
use Rattle.locale_numbers_tables.proofs.texts.all_rows.Given as goal

abbrev pub invariant-loop-row : goal.invariant-loop-row
invariant-loop-row l = each is_plain_row (items_view (drop l.row-index l.rows)) ≡ each is_plain_row (items_view l.rows)
