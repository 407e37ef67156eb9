use Rattle.icu_decimal_lenient.proofs.FoldStepLemmas.{digit_folds}
use Rattle.icu_decimal_lenient.proofs.folding.fold_character.Goals as goal

pub returns-in-Some : goal.returns-in-Some
returns-in-Some c = digit_folds c.args.table.now c.args.character c.in-Some.digit c.plain_digit.result c.in-Some.ensures.value c.plain_digit.ensures
