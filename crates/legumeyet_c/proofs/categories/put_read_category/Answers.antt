use Rattle.std.proofs.Common.{ap, ◌∙◌}
use Rattle.fixed_decimal.specs.Number.{Number}
use Rattle.fixed_decimal.specs.SignedValue.{SignedValue}
use Rattle.icu_plurals.specs.Categories.{word}
use Rattle.icu_plurals.specs.Operands.{Operands, operands_of}
use Rattle.icu_plurals.specs.Rules.{category_of}
use Rattle.legumeyet_c_values.specs.Numbers.{spelled}
use Rattle.legumeyet_c_values.proofs.NumbersLemmas.{given_other}
use Rattle.legumeyet_c_values.proofs.PuttingLemmas.{put_by, put_refused}
use Rattle.legumeyet_c.proofs.categories.put_read_category.Goals as goal

pub returns-in-Ok : goal.returns-in-Ok
returns-in-Ok c =
    put_by _ _ _ _ _
    (λ text is. record {
      number = c.assign_text.new.number;
      reads = c.in-Ok.ensures.value;
      is = is ∙ ap word (c.category_for.ensures ∙ ap (λ (o : Operands). category_of c.args.rules.now o) (c.from_significand_and_exponent-operands.ensures
          ∙ ap (λ (v : SignedValue Number). operands_of v.absolute 0) c.number.view_is));
    })
    (λ error none. absurd none)
    c.put_word.ensures

pub returns : goal.returns
returns c =
    put_refused _ _ _ _ _ (given_other (spelled c.args.text.now) c.in-Err.error c.in-Err.ensures.fault) c.in-Err.ensures.fault
