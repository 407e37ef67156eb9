use Rattle.std.proofs.Common.{ap, ◌∙◌}
use Rattle.locale_numbers_formats.specs.declared.NumberOptions.{NumberOptions}
use Rattle.legumeyet_c.specs.HeldFormats.{Wording}
use Rattle.legumeyet_c.specs.Writing.{asked_for}
use Rattle.legumeyet_c.proofs.held_formatter.HeldFormatter.made_texts.Goals as goal

pub returns-in-Some : goal.returns-in-Some
returns-in-Some c =
    c.in-Some.ensures
    ∙ ap (λ (w : Wording). asked_for w c.options.result.now) c.lent-borrowed.ensures
    ∙ ap (λ (o : NumberOptions). asked_for c.args.self.now.wording o) c.options.ensures
