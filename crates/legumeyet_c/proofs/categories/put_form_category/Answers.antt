use Rattle.std.proofs.Common.{◌∙◌, ap, refl}
use Rattle.icu_plurals.specs.Categories.{word}
use Rattle.icu_plurals.specs.Operands.{Operands}
use Rattle.icu_plurals.specs.Rules.{category_of}
use Rattle.locale_numbers_formatter.specs.ExactForms.{exact_shown}
use Rattle.legumeyet_c_values.proofs.PuttingLemmas.{put_by}
use Rattle.legumeyet_c.proofs.AskedLemmas.{form_in_range}
use Rattle.legumeyet_c.proofs.CategoryLemmas.{form_word_shown}
use Rattle.legumeyet_c.proofs.categories.put_form_category.Goals as goal

pub returns-in-Ok : goal.returns-in-Ok
returns-in-Ok c =
    let can = form_in_range c.args.formatter.now c.args.form.now (λ beyond. absurd (cc (c.in-Ok.ensures.range.1 beyond))) in
    put_by _ _ _ _ _
    (λ text is. record {
      can = can;
      is = form_word_shown c.args.rules.now c.args.formatter.now c.args.form.now (exact_shown c.args.formatter.now c.args.form.now) text refl
          (λ none. absurd (cc (c.in-Ok.ensures.exponent.1 (can, none))))
          (is ∙ ap word (c.category_for.ensures ∙ ap (λ (o : Operands). category_of c.args.rules.now o) c.operands_of-operands.ensures));
    })
    (λ error none. absurd none)
    c.put_word.ensures
