use Rattle.std.proofs.Common.{◌≡◌, ◌+◌, ◌-◌, arith, map}
use Rattle.writeable.specs.AnnotatedText.{bytes}
use Rattle.writeable.specs.Taking.{on_err}
use Rattle.writeable.proofs.WritingLemmas.{writing_goes_on, writing_stops, writing_ends}
use Rattle.fixed_decimal_unsigned.specs.Number.{digits_down}
use Rattle.fixed_decimal_unsigned.specs.NumberText.{character}
use Rattle.fixed_decimal_unsigned.proofs.WritingLemmas.{next_piece, none_left}
use Rattle.fixed_decimal_unsigned.proofs.writing.write_digits.Goals as goal

pub loop-left-preserved : goal.loop-left-preserved
loop-left-preserved g c =
    let count = c.args.number.now.count in
    let base = c.args.base in
    let left = c.loop-left.left in
    let size = c.piece_size-size.result in
    let whole : left ≡ size + (left - size) = omega (arith, c.piece_size-size.ensures.within) in
    record {
      left = let before = c.loop-left.invariant.left in omega (arith, before);
      writing = writing_goes_on g.S.Sink.takes g.S.Sink.refused g.met.S.Sink.joins _ _ _ _ (bytes (map character (digits_down count (base + (left - size)) size))) (bytes (map character (digits_down count base (left - size))))
          (rw (next_piece count base left size (left - size) whole) at c.loop-left.invariant.writing) c.in_ok-write_piece.ensures.ok c.in_ok-write_piece.ensures.refused;
    }

pub returns-in_err-write_piece-clause-begun : goal.returns-in_err-write_piece-clause-begun
returns-in_err-write_piece-clause-begun g c =
    let count = c.args.number.now.count in
    let base = c.args.base in
    let left = c.loop-left.left in
    let size = c.piece_size-size.result in
    let whole : left ≡ size + (left - size) = omega (arith, c.piece_size-size.ensures.within) in
    on_err c.from_residual.result
    (writing_stops g.S.Sink.takes g.S.Sink.refused g.met.S.Sink.joins g.S.Sink.lacks_room g.met.S.Sink.lacks_more _ _ _ _ (bytes (map character (digits_down count (base + (left - size)) size))) (bytes (map character (digits_down count base (left - size))))
    (rw (next_piece count base left size (left - size) whole) at c.loop-left.invariant.writing) c.in_err-write_piece.ensures.begun)

pub returns-clause-ok : goal.returns-clause-ok
returns-clause-ok g c =
    writing_ends g.S.Sink.takes g.S.Sink.refused _ _ _
    (rw (none_left c.args.number.now.count c.args.base c.loop-left.left (omega arith)) at c.loop-left.invariant.writing)
