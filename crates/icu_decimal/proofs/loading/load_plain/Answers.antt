use Rattle.std.proofs.Common.{ap, ◌∙◌}
use Rattle.icu_decimal_chains.specs.Chains.{chain}
use Rattle.icu_decimal_symbols.specs.declared.options.DecimalFormatterOptions.{DecimalFormatterOptions}
use Rattle.icu_decimal.specs.FoundTables.{found_tables}
use Rattle.icu_decimal.proofs.loading.load_plain.Goals as goal

pub returns : goal.returns
returns g c =
    let along = chain (g.P.ParentProvider.next c.args.provider.now) (g.P.ParentProvider.limit c.args.provider.now) in
    let symbols = g.P.DataProvider-1.table c.args.provider.now in
    let digits = g.P.DataProvider-2.table c.args.provider.now in
    c.try_new_unstable.ensures
    ∙ ap (λ (o : DecimalFormatterOptions). found_tables along symbols digits c.args.preferences.now o.grouping_strategy) c.from.ensures
