use Rattle.std.proofs.Common.{◌≡◌, drop}
use Rattle.serde_json.specs.View.{items_view}
use Rattle.locale_numbers_tables.specs.CompactEntries.{each, is_plain_text}
use Rattle.locale_numbers_tables.proofs.texts.all_texts.Given as goal

abbrev pub invariant-loop-text : goal.invariant-loop-text
invariant-loop-text l = each is_plain_text (items_view (drop l.text-index l.texts)) ≡ each is_plain_text (items_view l.texts)
