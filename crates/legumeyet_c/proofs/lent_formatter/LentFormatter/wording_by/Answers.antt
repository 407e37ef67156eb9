use Rattle.std.proofs.Common.{Option, ap, ◌∙◌}
use Rattle.std.specs.Prelude.{option_map}
use Rattle.locale_numbers.specs.FoundRules.{rules_held}
use Rattle.locale_numbers_formatter.specs.FormatText.{FormatTables}
use Rattle.legumeyet_c.specs.HeldFormats.{Wording}
use Rattle.legumeyet_c.specs.Writing.{wording_by}
use Rattle.legumeyet_c.proofs.lent_formatter.LentFormatter.wording_by.Goals as goal

pub returns-in-Some : goal.returns-in-Some
returns-in-Some c =
    let own : Wording = record { tables = c.self.inside.formatter; plurals = option_map rules_held c.self.inside.plurals } in
    ap (λ (f : Option FormatTables). option_map (λ tables. record own { tables = tables }) f) c.in-Some.ensures ∙ ap (λ (w : Wording). wording_by c.args.options.now w) c.self.view_is

pub returns-in-None : goal.returns-in-None
returns-in-None c =
    let own : Wording = record { tables = c.self.inside.formatter; plurals = option_map rules_held c.self.inside.plurals } in
    ap (λ (f : Option FormatTables). option_map (λ tables. record own { tables = tables }) f) c.in-None.ensures ∙ ap (λ (w : Wording). wording_by c.args.options.now w) c.self.view_is
