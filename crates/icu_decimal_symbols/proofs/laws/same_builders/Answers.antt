use Rattle.std.proofs.Common.{sym, ◌∙◌}
use Rattle.icu_decimal_symbols.specs.SameSymbolsLaws.{same_strings_decides}
use Rattle.icu_decimal_symbols.proofs.laws.same_builders.Goals as goal

pub returns : goal.returns
returns c =
    let decides = same_strings_decides c.args.one.now c.args.other.now in
    (λ e. decides.0 (sym c.eq.ensures ∙ e), λ e. c.eq.ensures ∙ decides.1 e)
