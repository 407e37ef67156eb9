use Rattle.std.proofs.Common.{◌+◌, ◌≤◌, subst, sym}
use Rattle.icu_decimal_plain.proofs.PieceLemmas.{piece_set}
use Rattle.icu_decimal_plain.proofs.text_pieces.put_piece.Goals as goal

pub returns-clause-text : goal.returns-clause-text
returns-clause-text g c =
    piece_set c.args.waiting.now c.args.piece.bytes c.args.len c.args.piece.len
    (subst (λ n. c.args.len + 4 ≤ n) (sym c.told-waiting) c.requires.room) c.requires.long c.requires.short
