use Rattle.std.proofs.Common.{◌≡◌, IfOk, ap, subst, ◌∙◌}
use Rattle.icu_plurals.specs.Rules.{Rules}
use Rattle.locale_numbers_answers.specs.CategoryAnswer.{shown_category}
use Rattle.locale_numbers_formats.specs.Changed.{changed}
use Rattle.legumeyet_options.proofs.categories.category_by.Goals as goal

pub returns : goal.returns
returns c =
    let f = c.args.formatter.now in
    let changes = c.in_ok-change.ensures.value ∙ ap (λ fractions. changed c.args.options fractions c.args.value.now) c.fractions.ensures in
    subst (λ shown. IfOk c.shown_category.result (λ category. category ≡ shown))
    (ap (λ (rules : Rules). shown_category f rules c.change.new.value) c.rules.ensures ∙ ap (shown_category f c.args.rules.now.0) changes)
    c.shown_category.ensures.value
