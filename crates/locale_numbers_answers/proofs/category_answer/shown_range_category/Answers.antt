use Rattle.std.proofs.Common.{Option, ap, ◌∙◌}
use Rattle.icu_plurals.specs.declared.PluralCategory.{PluralCategory}
use Rattle.writeable.specs.Taking.{on_err}
use Rattle.locale_numbers_answers.specs.CategoryAnswer.{category_between, shown_category}
use Rattle.locale_numbers_answers.proofs.category_answer.shown_range_category.Goals as goal

pub returns-clause-value : goal.returns-clause-value
returns-clause-value c =
    c.category_between.ensures
    ∙ ap (λ (end : Option PluralCategory). category_between c.args.rules.now.ranges.now c.in_ok-start.start end) c.in_ok-end.ensures.value
    ∙ ap (λ (start : Option PluralCategory). category_between c.args.rules.now.ranges.now start (shown_category c.args.formatter.now c.args.rules.now.rules.now c.args.second.now))
    c.in_ok-start.ensures.value

pub returns-in_err-end-clause-room : goal.returns-in_err-end-clause-room
returns-in_err-end-clause-room c = on_err c.from_residual-in_err-end.result c.in_err-end.ensures.room
