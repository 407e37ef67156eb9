use Rattle.std.proofs.Common.{◌-◌, arith}
use Rattle.icu_decimal_compact_value.proofs.TableLemmas.{reached}
use Rattle.icu_decimal_compact_value.proofs.table.entry_index.Goals as goal

pub returns-then-entries-index-clause-entry : goal.returns-then-entries-index-clause-entry
returns-then-entries-index-clause-entry c =
    let some = c.loop-index-test.true in
    let within = c.loop-index.invariant.within in
    reached 32768 c.args.entries.now c.args.place (c.loop-index.index - 1) (record { log10_type = 0; exponent = 0 }) (omega (arith, some, within)) c.loop-index.index (omega (arith, some)) c.loop-index.invariant.none c.if-entries-index.true
