use Rattle.std.proofs.Common.{◌∙◌, ap, is_none, sym}
use Rattle.std.specs.List.{list_all}
use Rattle.icu_decimal_reading.specs.Readable.{digit_of}
use Rattle.icu_decimal_lenient.specs.Folding.{plain_digits}
use Rattle.icu_decimal_lenient.proofs.FoldingLemmas.{chars_folded}
use Rattle.icu_decimal_lenient.proofs.readable.folds_clear.Goals as goal

pub returns : goal.returns
returns c = c.lacks_digit.ensures ∙ ap (list_all (λ d. is_none (digit_of plain_digits d))) (sym (chars_folded c.args.table.now c.args.text.now c.requires.ten c.utf8.text))
