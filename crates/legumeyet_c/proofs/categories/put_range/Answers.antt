use Rattle.std.proofs.Common.{◌∙◌, ap, sym, inl, inr, Some}
use Rattle.std.proofs.lemmas.Result.{err_from_is_err_and}
use Rattle.icu_plurals.specs.Categories.{word}
use Rattle.locale_numbers.specs.FoundRules.{rules_held}
use Rattle.legumeyet_c_values.proofs.PuttingLemmas.{put_by, put_refused}
use Rattle.legumeyet_c.proofs.CategoryLemmas.{range_shown, unseen_other}
use Rattle.legumeyet_c.proofs.categories.put_range.Goals as goal

pub returns-in_err-start : goal.returns-in_err-start
returns-in_err-start c =
    let error = c.in_err-start.field-0.0 in
    let p = err_from_is_err_and c.from_residual.result c.from_residual.ensures.1 in
    rw (p.1, p.2) (put_refused _ _ _ _ error (unseen_other c.args.formatter.now c.args.first.now error c.in_err-start.ensures.fault) (inl c.in_err-start.ensures.fault))

pub returns-in-Ok : goal.returns-in-Ok
returns-in-Ok c =
    put_by _ _ _ _ _
    (λ text is. range_shown (rules_held c.args.plurals.now) c.args.formatter.now (c.args.first.now, c.args.second.now) c.in_ok-start.start c.in-Ok.end text
    c.in_ok-start.ensures.value c.in-Ok.ensures.value (ap Some (sym (is ∙ ap word c.category_for_range.ensures))))
    (λ error none. absurd none)
    c.put_word.ensures

pub returns-in-Err : goal.returns-in-Err
returns-in-Err c = put_refused _ _ _ _ _ (unseen_other c.args.formatter.now c.args.second.now c.in-Err.error c.in-Err.ensures.fault) (inr c.in-Err.ensures.fault)
