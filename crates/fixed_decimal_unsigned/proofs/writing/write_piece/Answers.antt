use Rattle.std.proofs.Common.{subst, sym}
use Rattle.std.specs.Str.{IsAscii}
use Rattle.fixed_decimal_unsigned.proofs.WritingLemmas.{characters_ascii}
use Rattle.fixed_decimal_unsigned.proofs.writing.write_piece.Goals as goal

pub ascii_text-requires : goal.ascii_text-requires
ascii_text-requires g c = subst IsAscii (sym c.piece_of-piece.ensures) (characters_ascii c.args.number.now.count c.args.base c.args.size)
