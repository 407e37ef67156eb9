use Rattle.std.proofs.Common.{Option, ap, ◌∙◌}
use Rattle.locale_numbers_formats.specs.declared.NumberOptions.{NumberOptions}
use Rattle.legumeyet_c.specs.HeldFormats.{Wording}
use Rattle.legumeyet_c.specs.Writing.{asked_beside, asked_for}
use Rattle.legumeyet_c.proofs.asking.asked_given.Goals as goal

pub returns-in-Some : goal.returns-in-Some
returns-in-Some c =
    ap (λ (o : NumberOptions). asked_for c.in-Some.lent o) c.unchanged.ensures
    ∙ ap (λ (w : Option Wording). asked_beside w c.args.lent c.args.options) c.in-Some.ensures

pub returns-in-None : goal.returns-in-None
returns-in-None c = ap (λ (w : Option Wording). asked_beside w c.args.lent c.args.options) c.in-None.ensures
