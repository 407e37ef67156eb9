use Rattle.std.proofs.Common.{◌≡◌, ◌+◌, ◌-◌, ◌∙◌, arith, map, subst, sym, take}
use Rattle.std.specs.Int.Digits.{AllBelowBase}
use Rattle.writeable.specs.Taking.{on_err}
use Rattle.writeable.proofs.WritingLemmas.{writing_goes_on, writing_stops, writing_ends}
use Rattle.fixed_decimal.proofs.DigitsLemmas.{below_drop}
use Rattle.icu_decimal_plain.specs.PlainText.{chained, digit_events}
use Rattle.icu_decimal_plain.proofs.PlainTextLemmas.{next_piece, no_piece, none_dropped, piece_dropped}
use Rattle.icu_decimal_plain.proofs.writing.write_digits.Goals as goal

pub loop-left-preserved : goal.loop-left-preserved
loop-left-preserved g c =
    let table = c.args.table.now.chars.now in
    let left = c.loop-left.left in
    let size = c.min-size.result in
    let was = c.loop-left.digits in
    let after = c.write_piece.new.digits in
    let whole : left ≡ size + (left - size) = omega (arith, c.min-size.ensures) in
    let is = c.in_ok-write_piece.ensures.digits in
    record {
      left = let before = c.loop-left.invariant.left in omega (arith, before);
      tens = subst (AllBelowBase 10) (sym is) (below_drop size was c.loop-left.invariant.tens);
      digits = piece_dropped was after left size (left - size) whole is ∙ c.loop-left.invariant.digits;
      writing = writing_goes_on g.S.Sink.takes g.S.Sink.refused g.met.S.Sink.joins _ _ _ _ (chained (map (digit_events table) (take size was))) (chained (map (digit_events table) (take (left - size) after)))
          (rw (next_piece table was after left size (left - size) whole is) at c.loop-left.invariant.writing) c.in_ok-write_piece.ensures.ok c.in_ok-write_piece.ensures.refused;
    }

pub returns-in_err-write_piece-clause-begun : goal.returns-in_err-write_piece-clause-begun
returns-in_err-write_piece-clause-begun g c =
    let table = c.args.table.now.chars.now in
    let left = c.loop-left.left in
    let size = c.min-size.result in
    let was = c.loop-left.digits in
    let after = c.write_piece.new.digits in
    let whole : left ≡ size + (left - size) = omega (arith, c.min-size.ensures) in
    on_err c.from_residual.result
    (writing_stops g.S.Sink.takes g.S.Sink.refused g.met.S.Sink.joins g.S.Sink.lacks_room g.met.S.Sink.lacks_more _ _ _ _ (chained (map (digit_events table) (take size was))) (chained (map (digit_events table) (take (left - size) after)))
    (rw (next_piece table was after left size (left - size) whole c.in_err-write_piece.ensures.digits) at c.loop-left.invariant.writing) c.in_err-write_piece.ensures.begun)

pub returns-clause-ok : goal.returns-clause-ok
returns-clause-ok g c =
    writing_ends g.S.Sink.takes g.S.Sink.refused _ _ _
    (rw (no_piece c.args.table.now.chars.now c.loop-left.digits c.loop-left.left (omega arith)) at c.loop-left.invariant.writing)

pub returns-clause-digits : goal.returns-clause-digits
returns-clause-digits g c =
    none_dropped c.loop-left.digits c.loop-left.left (omega arith) ∙ c.loop-left.invariant.digits
