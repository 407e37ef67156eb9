use Rattle.std.proofs.Common.{◌≡◌, drop, is_some}
use Rattle.icu_decimal.specs.Reading.{is_same, pairs_of}
use Rattle.locale_numbers_tables.specs.Keys.{table_at}
use Rattle.locale_numbers_tables.proofs.rules.has_category.Given as goal

abbrev pub invariant-loop-other : goal.invariant-loop-other
invariant-loop-other l =
    is_some (table_at is_same l.category (pairs_of (drop l.other-index l.list))) ≡ is_some (table_at is_same l.category (pairs_of l.list))
