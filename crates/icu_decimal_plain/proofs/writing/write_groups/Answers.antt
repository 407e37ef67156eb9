use Rattle.std.proofs.Common.{◌++◌, codes, map, subst, sym, take}
use Rattle.std.specs.Int.Digits.{AllBelowBase}
use Rattle.writeable.proofs.WritingLemmas.{writing_goes_on}
use Rattle.fixed_decimal.proofs.DigitsLemmas.{below_drop}
use Rattle.icu_decimal_plain.specs.Affixes.{as_part, decimal_part}
use Rattle.icu_decimal_plain.specs.LaterGroups.{later_events}
use Rattle.icu_decimal_plain.specs.PlainText.{chained, digit_events}
use Rattle.icu_decimal_plain.proofs.PlainTextLemmas.{next_group}
use Rattle.icu_decimal_plain.proofs.writing.write_groups.Goals as goal

pub loop-size-preserved : goal.loop-size-preserved
loop-size-preserved g c =
    let table = c.args.table.now.chars.now in
    let separator = c.args.separator.now in
    let size = c.in-Some.size in
    let was = c.loop-size.digits in
    let after = c.write_group.new.digits in
    let is = c.in_ok-write_group.ensures.digits in
    record {
      tens = subst (AllBelowBase 10) (sym is) (below_drop size was c.loop-size.invariant.tens);
      writing = writing_goes_on g.S.Sink.takes g.S.Sink.refused g.met.S.Sink.joins _ _ _ _ (as_part (decimal_part (codes "group")) separator ++ chained (map (digit_events table) (take size was))) (later_events separator table c.next.new.self after)
          (rw (next_group separator table c.loop-size.sizes c.next.new.self was after size c.in-Some.ensures.steps is) at c.loop-size.invariant.writing) c.in_ok-write_group.ensures.ok c.in_ok-write_group.ensures.refused;
    }
