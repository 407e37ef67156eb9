use Rattle.std.proofs.Common.{arith, inl}
use Rattle.tinystr.proofs.FaultsLemmas.{faultless_nul, faultless_text, stops_at_non_ascii, stops_after_nul, text_unit}
use Rattle.tinystr.proofs.utf16.check_utf16.Goals as goal
use Rattle.tinystr.proofs.utf16.check_utf16.Goals.{then-unit-eq0, else-unit-eq0+else-nul_seen}

pub returns-then-unit-gt127 : goal.returns-then-unit-gt127
returns-then-unit-gt127 c =
    (omega arith, stops_at_non_ascii c.loop-unit.nul_seen c.args.units.now c.loop-unit.unit-index c.loop-unit-test.true c.loop-unit.invariant c.if-unit-gt127.true)

pub returns-then-nul_seen : goal.returns-then-nul_seen
returns-then-nul_seen c = (
  omega arith,
  inl (stops_after_nul c.loop-unit.nul_seen c.args.units.now c.loop-unit.unit-index c.loop-unit-test.true c.loop-unit.invariant
      c.if-nul_seen.true (text_unit _ c.if-unit-gt127.false c.if-unit-eq0.false)),
)

pub loop-unit-preserved : goal.loop-unit-preserved
loop-unit-preserved c = elim c.if-unit-eq0.branch [
  | then-unit-eq0 w ↦ rw w.nul_seen-is
      (faultless_nul c.loop-unit.nul_seen c.args.units.now c.loop-unit.unit-index c.loop-unit-test.true c.loop-unit.invariant w.if-unit-eq0.true)
  | else-unit-eq0+else-nul_seen w ↦ rw w.nul_seen-is
      (faultless_text c.loop-unit.nul_seen c.args.units.now c.loop-unit.unit-index c.loop-unit-test.true c.loop-unit.invariant
      w.if-nul_seen.false (text_unit _ c.if-unit-gt127.false w.if-unit-eq0.false))
]
