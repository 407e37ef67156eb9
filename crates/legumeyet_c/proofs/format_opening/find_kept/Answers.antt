use Rattle.std.proofs.Common.{Ok, ap, sym, ◌∙◌}
use Rattle.std.specs.Prelude.{option_map}
use Rattle.locale_numbers.specs.FoundRules.{rules_held}
use Rattle.legumeyet_c.proofs.GroupingLemmas.{found_held}
use Rattle.legumeyet_c.proofs.format_opening.find_kept.Goals as goal

pub returns-clause-value : goal.returns-clause-value
returns-clause-value c =
    found_held c.args.book.now c.args.asked.now c.args.tag.now c.in_ok-formatter.formatter c.in_ok-formatter.second (option_map rules_held c.in_ok-plurals.plurals)
    c.in_ok-formatter.ensures.value c.in_ok-plurals.ensures.value ∙ ap Ok (sym c.kept.ensures)
