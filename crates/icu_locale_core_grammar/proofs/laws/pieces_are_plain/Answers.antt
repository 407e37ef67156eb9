use Rattle.icu_locale_core_grammar.proofs.PlainPieces.{tag_plain}
use Rattle.icu_locale_core_grammar.proofs.laws.pieces_are_plain.Goals as goal

pub returns : goal.returns
returns c = tag_plain
