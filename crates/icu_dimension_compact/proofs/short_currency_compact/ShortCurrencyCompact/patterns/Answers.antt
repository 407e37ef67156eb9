use Rattle.std.proofs.Common.{◌≡◌, ◌∙◌, Some, ap, sym}
use Rattle.icu_decimal_compact_value.specs.Choice.{entry_of}
use Rattle.icu_dimension_compact.specs.AmountTables.{AmountTable, patterns_at, patterns_of}
use Rattle.icu_dimension_compact.proofs.AmountTableLemmas.{patterns_are}
use Rattle.icu_dimension_compact.proofs.short_currency_compact.ShortCurrencyCompact.patterns.Goals as goal

pub returns-in-Some : goal.returns-in-Some
returns-in-Some c =
    c.held.ensures
    ∙ ap (λ ps. patterns_at ps c.in-Some.index) c.as_slice.ensures.value
    ∙ patterns_are (record { entries = c.self.inside.entries.items; patterns = c.self.inside.patterns.items }) (Some c.in-Some.index) c.self.invariant.0 c.self.invariant.1
    ∙ ap (λ (t : AmountTable). patterns_of t (entry_of t.entries (Some c.in-Some.index))) c.self.view_is
    ∙ ap (λ found. patterns_of c.args.self.now (entry_of c.args.self.now.entries found)) (sym c.in-Some.is)
