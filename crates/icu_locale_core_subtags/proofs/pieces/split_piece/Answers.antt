use Rattle.std.proofs.Common.{sym}
use Rattle.icu_locale_core_subtags.proofs.PieceLemmas.{cut_at_hyphen, one_piece}
use Rattle.icu_locale_core_subtags.proofs.pieces.split_piece.Goals as goal

pub returns-in-Some : goal.returns-in-Some
returns-in-Some c = cut_at_hyphen c.args.text.now c.in-Some.end (sym c.in-Some.ensures)

pub returns-in-None : goal.returns-in-None
returns-in-None c = one_piece c.args.text.now (sym c.in-None.ensures)
