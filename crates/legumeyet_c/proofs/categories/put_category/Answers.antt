use Rattle.std.proofs.Common.{◌∙◌, ap}
use Rattle.icu_plurals.specs.Categories.{word}
use Rattle.legumeyet_c_values.proofs.PuttingLemmas.{put_by, put_refused}
use Rattle.legumeyet_c.proofs.CategoryLemmas.{unseen_other, word_shown}
use Rattle.legumeyet_c.proofs.categories.put_category.Goals as goal

pub returns-in-Ok : goal.returns-in-Ok
returns-in-Ok c =
    put_by _ _ _ _ _
    (λ text is. word_shown c.args.rules.now c.args.formatter.now c.args.value.now c.in-Ok.operands text c.in-Ok.ensures.value (is ∙ ap word c.category_for.ensures))
    (λ error none. absurd none)
    c.put_word.ensures

pub returns-in-Err : goal.returns-in-Err
returns-in-Err c = put_refused _ _ _ _ _ (unseen_other c.args.formatter.now c.args.value.now c.in-Err.error c.in-Err.ensures.fault) c.in-Err.ensures.fault
