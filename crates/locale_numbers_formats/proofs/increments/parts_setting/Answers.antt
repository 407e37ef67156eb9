use Rattle.std.proofs.Common.{ap, length, ◌∙◌}
use Rattle.locale_numbers_formats.specs.IncrementWords.{digits_setting}
use Rattle.locale_numbers_formats.proofs.IncrementLemmas.{first_of_rest, first_of_text}
use Rattle.locale_numbers_formats.proofs.increments.parts_setting.Goals as goal

pub returns-in-None : goal.returns-in-None
returns-in-None c =
    c.fraction_setting.ensures
    ∙ ap (digits_setting c.args.whole (length c.args.fraction.now)) (first_of_rest c.args.front.now c.args.fraction.now _ c.from_first.ensures c.in-None.ensures.cases)

pub returns-in-Some : goal.returns-in-Some
returns-in-Some c =
    c.digits_setting.ensures
    ∙ ap (digits_setting c.args.whole (length c.args.fraction.now))
    (first_of_text c.args.front.now c.args.fraction.now _ c.in-Some.first.now c.in-Some.behind.now c.from_first.ensures c.in-Some.ensures.cases.0)
