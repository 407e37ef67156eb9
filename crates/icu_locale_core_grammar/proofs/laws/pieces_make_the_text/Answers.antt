use Rattle.icu_locale_core_grammar.proofs.PlainPieces.{joined-pieces}
use Rattle.icu_locale_core_grammar.proofs.laws.pieces_make_the_text.Goals as goal

pub returns : goal.returns
returns c = joined-pieces
