use Rattle.std.proofs.Common.{◌++◌, ◌∙◌, drop, map, refl, subst, sym, take}
use Rattle.std.specs.Int.Digits.{AllBelowBase}
use Rattle.writeable.specs.AnnotatedText.{bytes}
use Rattle.writeable.proofs.WritingLemmas.{writing_ends, writing_goes_on, writing_stops}
use Rattle.writeable.specs.Taking.{on_err}
use Rattle.fixed_decimal.proofs.DigitsLemmas.{below_drop}
use Rattle.icu_decimal_plain.specs.LaterGroups.{groups_ahead}
use Rattle.icu_decimal_plain.specs.PlainText.{chained, digit_text}
use Rattle.icu_decimal_plain.proofs.PieceLemmas.{next_bytes, next_past, no_bytes_ahead}
use Rattle.icu_decimal_plain.proofs.text_writing.write_few.Goals as goal

pub loop-size-preserved : goal.loop-size-preserved
loop-size-preserved g c =
    let table = c.args.table.now.chars.now in
    let separator = c.args.separator.now in
    let size = c.in-Some.size in
    let was = c.loop-size.digits in
    let after = c.write_group.new.digits in
    let is = c.in_ok-write_group.ensures.digits in
    record {
      tens = subst (AllBelowBase 10) (sym is) (below_drop size was c.loop-size.invariant.tens);
      digits = next_past c.loop-size.sizes c.next.new.self was after size c.in-Some.ensures.steps is ∙ c.loop-size.invariant.digits;
      writing = writing_goes_on g.S.Sink.takes g.S.Sink.refused g.met.S.Sink.joins _ _ _ _ (bytes separator ++ bytes (chained (map (digit_text table) (take size was)))) (bytes (groups_ahead separator (digit_text table) c.next.new.self after))
          (rw (next_bytes separator table c.loop-size.sizes c.next.new.self was after size c.in-Some.ensures.steps is) at c.loop-size.invariant.writing) c.in_ok-write_group.ensures.ok c.in_ok-write_group.ensures.refused;
    }

pub returns-in_err-write_group-clause-begun : goal.returns-in_err-write_group-clause-begun
returns-in_err-write_group-clause-begun g c =
    let table = c.args.table.now.chars.now in
    let separator = c.args.separator.now in
    let size = c.in-Some.size in
    let was = c.loop-size.digits in
    on_err c.from_residual.result
    (writing_stops g.S.Sink.takes g.S.Sink.refused g.met.S.Sink.joins g.S.Sink.lacks_room g.met.S.Sink.lacks_more _ _ _ _ (bytes separator ++ bytes (chained (map (digit_text table) (take size was)))) (bytes (groups_ahead separator (digit_text table) c.next.new.self (drop size was)))
    (rw (next_bytes separator table c.loop-size.sizes c.next.new.self was (drop size was) size c.in-Some.ensures.steps refl) at c.loop-size.invariant.writing) c.in_err-write_group.ensures.begun)

pub returns-clause-ok : goal.returns-clause-ok
returns-clause-ok g c =
    writing_ends g.S.Sink.takes g.S.Sink.refused _ _ _
    (rw (no_bytes_ahead c.args.separator.now c.args.table.now.chars.now c.loop-size.sizes c.loop-size.digits c.in_default.ensures.steps.0) at c.loop-size.invariant.writing)
