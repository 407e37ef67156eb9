use Rattle.std.proofs.Common.{Option}
use Rattle.std.specs.Prelude.{option_map}
use Rattle.icu_plurals.specs.declared.PluralRulesWithRanges.{PluralRulesWithRanges}
use Rattle.locale_numbers.specs.FoundRules.{rules_held}
use Rattle.locale_numbers_formatter.specs.FormatText.{FormatTables}
use Rattle.locale_numbers_formatter.specs.Regrouped.{regrouped}
use Rattle.legumeyet_c.specs.HeldFormats.{Plurals, held_format}
use Rattle.legumeyet_c.proofs.GroupingLemmas.{copy_held, held_same}
use Rattle.legumeyet_c.proofs.format_opening.find.Goals as goal

pub returns-in-Ok-clause-value : goal.returns-in-Ok-clause-value
returns-in-Ok-clause-value c =
    let first : FormatTables = c.in_ok-formatter.formatter in
    let second : Option FormatTables = c.in_ok-formatter.second in
    let plurals : Option Plurals = option_map rules_held c.in_ok-plurals.plurals in
    let asked = c.args.asked.now in
    let strategy = asked.format.shape.grouping in
    copy_held c.args.book.now asked c.args.tag.now first second plurals c.in-Ok.held c.in_ok-formatter.ensures.value c.in_ok-plurals.ensures.value
    (held_same (λ (p : Option PluralRulesWithRanges) (s : Option FormatTables). held_format (regrouped strategy first) (option_map rules_held p) (option_map (regrouped strategy) s) asked.format.options)
    c.in-Ok.held _ c.in_ok-plurals.plurals _ second c.in-Ok.ensures c.as_ref-plurals.ensures.value c.as_ref-second.ensures.value)
