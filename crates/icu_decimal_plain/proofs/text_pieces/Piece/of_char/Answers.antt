use Rattle.icu_decimal_plain.proofs.PieceLemmas.{ascii_held}
use Rattle.icu_decimal_plain.proofs.text_pieces.Piece.of_char.Goals as goal

pub returns-then-character-lt128 : goal.returns-then-character-lt128
returns-then-character-lt128 c = ascii_held c.args.character c.if-character-lt128.true
