use Rattle.std.proofs.Common.{Err, map, option_map, sym, ap}
use Rattle.icu_decimal.specs.KeptEntries.{of_type}
use Rattle.locale_numbers_tables.proofs.CompactLemmas.{no_table_made, table_read}
use Rattle.locale_numbers_tables.proofs.compact.table.Goals as goal

pub returns-in-Ok : goal.returns-in-Ok
returns-in-Ok c = rw (← c.in_ok-types.ensures) (sym (table_read (option_map (λ patterns. patterns.now) c.args.zero) (map of_type c.in_ok-types.types.entries) c.in-Ok.table c.in-Ok.ensures.value))

pub returns-in_default : goal.returns-in_default
returns-in_default c =
    rw (← c.in_ok-types.ensures) (sym (no_table_made (option_map (λ patterns. patterns.now) c.args.zero) (map of_type c.in_ok-types.types.entries) c.in-Err.fault c.in-Err.ensures.only c.in_default.not-Memory
    (λ e. c.in-Err.ensures.decreasing.0 (ap Err e)) (λ e. c.in-Err.ensures.above.0 (ap Err e)) (λ e. c.in-Err.ensures.zeros.0 (ap Err e))))
