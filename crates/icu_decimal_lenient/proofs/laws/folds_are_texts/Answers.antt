use Rattle.icu_decimal_lenient.proofs.FoldingLemmas.{fold_of_text}
use Rattle.icu_decimal_lenient.proofs.laws.folds_are_texts.Goals as goal

pub returns : goal.returns
returns c = fold_of_text
