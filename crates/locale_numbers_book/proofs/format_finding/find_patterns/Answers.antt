use Rattle.icu_decimal_chains.specs.Chains.{chain}
use Rattle.locale_numbers_formats.specs.declared.CompactWidth.TheVariants.{Short, Long}
use Rattle.locale_numbers_book.proofs.ProviderLemmas.{compact_found_by}
use Rattle.locale_numbers_book.proofs.format_finding.find_patterns.Goals as goal

pub returns-in-Short : goal.returns-in-Short
returns-in-Short g c =
    let tables = c.args.tables.now in
    rw c.in-Short.is
    (compact_found_by (chain (g.T.ParentProvider.next tables) (g.T.ParentProvider.limit tables)) (g.T.DataProvider-1.table tables) (g.T.DataProvider-2.table tables) (g.T.Tables.book tables) c.args.preferences c.args.grouping
    (g.met.T.Tables.chains tables) (g.met.T.Tables.symbols tables) (g.met.T.Tables.digits tables)
    Short (g.T.DataProvider-3.table tables) (g.T.DataProvider-4.table tables) c.from-options.result _
    (g.met.T.Tables.rules tables) (g.met.T.Tables.short tables) c.from-options.ensures c.try_new_short_unstable.ensures)

pub returns-in-Long : goal.returns-in-Long
returns-in-Long g c =
    let tables = c.args.tables.now in
    rw c.in-Long.is
    (compact_found_by (chain (g.T.ParentProvider.next tables) (g.T.ParentProvider.limit tables)) (g.T.DataProvider-1.table tables) (g.T.DataProvider-2.table tables) (g.T.Tables.book tables) c.args.preferences c.args.grouping
    (g.met.T.Tables.chains tables) (g.met.T.Tables.symbols tables) (g.met.T.Tables.digits tables)
    Long (g.T.DataProvider-3.table tables) (g.T.DataProvider-5.table tables) c.from-options.result _
    (g.met.T.Tables.rules tables) (g.met.T.Tables.long tables) c.from-options.ensures c.try_new_long_unstable.ensures)
