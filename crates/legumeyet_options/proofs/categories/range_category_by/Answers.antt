use Rattle.std.proofs.Common.{◌≡◌, List, IfOk, ap, subst, ◌∙◌}
use Rattle.icu_plurals.specs.Rules.{Rules}
use Rattle.icu_plurals.specs.declared.PluralRange.{PluralRange}
use Rattle.locale_numbers_answers.specs.CategoryAnswer.{shown_range_category}
use Rattle.locale_numbers_formats.specs.Changed.{changed}
use Rattle.locale_numbers_formatter.specs.FormatText.{fractions_in}
use Rattle.legumeyet_options.proofs.categories.range_category_by.Goals as goal

pub returns : goal.returns
returns c =
    let f = c.args.formatter.now in
    let first = c.in_ok-change.ensures.value ∙ ap (λ fractions. changed c.args.options fractions c.args.first.now) c.fractions.ensures in
    let second = c.in_ok-change-2.ensures.value ∙ ap (λ fractions. changed c.args.options fractions c.args.second.now) c.fractions-2.ensures in
    subst (λ shown. IfOk c.shown_range_category.result (λ category. category ≡ shown))
    (ap (λ (rules : Rules). shown_range_category f rules c.found.result.ranges.now c.change.new.value c.change-2.new.value) c.found.ensures.rules
    ∙ ap (λ (ranges : List PluralRange). shown_range_category f c.args.rules.now.0 ranges c.change.new.value c.change-2.new.value) c.found.ensures.ranges
    ∙ ap (λ m. shown_range_category f c.args.rules.now.0 c.args.rules.now.1 m c.change-2.new.value) first
    ∙ ap (shown_range_category f c.args.rules.now.0 c.args.rules.now.1 (changed c.args.options (fractions_in f) c.args.first.now)) second)
    c.shown_range_category.ensures.value
