use Rattle.std.proofs.Common.{rules, ◌≡◌, Some, ap, ◌∙◌}
use Rattle.icu_decimal_scientific.specs.ExponentialText.{ScientificSettings}
use Rattle.locale_numbers_formats.specs.declared.ScientificStyle.{ScientificStyle}
use Rattle.locale_numbers_formatter.specs.FormatText.{FormatTables, ScientificFormat, scientific_tables}
use Rattle.locale_numbers_formatter.specs.HeldScientific.{scientific_held}
use Rattle.legumeyet_c.specs.Writing.{significand_by}
use Rattle.legumeyet_c.proofs.lent_formatter.significand_by.Goals as goal

pub returns-in-Scientific : goal.returns-in-Scientific
returns-in-Scientific c =
    let own : ScientificFormat = scientific_held c.in-Scientific.own in
    let options = c.args.options.now in
    let is : scientific_tables own ≡ c.args.formatter.now = search rules in
    ap Some (c.from.ensures
    ∙ ap scientific_tables (c.new-changed.ensures
    ∙ ap (λ (s : ScientificSettings). record { settings = s; style = c.style.result; options = options }) c.tables.ensures
    ∙ ap (λ (s : ScientificStyle). record { settings = own.settings; style = s; options = options }) c.style.ensures))
    ∙ ap (λ (f : FormatTables). significand_by options f) is
