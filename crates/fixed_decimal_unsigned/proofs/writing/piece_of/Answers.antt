use Rattle.fixed_decimal_unsigned.proofs.WritingLemmas.{whole_piece}
use Rattle.fixed_decimal_unsigned.proofs.writing.piece_of.Goals as goal

pub returns-in-Some : goal.returns-in-Some
returns-in-Some c = whole_piece c.in-Some.text c.args.number.now.count c.args.base c.args.size c.if-size-eq-PIECE.true c.in-Some.ensures
