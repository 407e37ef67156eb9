use Rattle.std.proofs.Common.{ap, ◌∙◌}
use Rattle.icu_decimal_direct.specs.TextDigits.{number_spelled}
use Rattle.icu_plurals.specs.Categories.{word}
use Rattle.icu_plurals.specs.Operands.{Operands}
use Rattle.icu_plurals.specs.Rules.{category_of}
use Rattle.legumeyet_c_values.proofs.PuttingLemmas.{put_by}
use Rattle.legumeyet_c.proofs.categories.put_spelled_category.Goals as goal

pub returns-in-Some : goal.returns-in-Some
returns-in-Some c =
    put_by _ _ _ _ _
    (λ text is. record {
      number = number_spelled c.in-Some.digits;
      reads = c.in-Some.ensures.reads;
      is = is ∙ ap word (c.category_for.ensures ∙ ap (λ (o : Operands). category_of c.args.rules.now o) c.plural_operands-operands.ensures);
    })
    (λ error none. absurd none)
    c.put_word.ensures
