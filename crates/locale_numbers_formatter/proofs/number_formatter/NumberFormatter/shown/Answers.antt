use Rattle.std.proofs.Common.{OnErr, ap, subst, sym, ◌∙◌}
use Rattle.locale_numbers_formatter.specs.FormatText.{ShowAllocates}
use Rattle.locale_numbers_formatter.specs.HeldFormats.{format_of}
use Rattle.locale_numbers_formatter.proofs.number_formatter.NumberFormatter.shown.Goals as goal

pub returns-in-Compact-clause-room : goal.returns-in-Compact-clause-room
returns-in-Compact-clause-room c =
    subst (λ f. OnErr c.show_compact.result (ShowAllocates f c.args.value.now)) (ap format_of (sym c.in-Compact.is) ∙ c.self.view_is) c.show_compact.ensures.room
