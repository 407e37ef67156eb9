use Rattle.locale_numbers_book.specs.FoundFormats.{amount_options}
use Rattle.locale_numbers_book.proofs.ProviderLemmas.{amounts_found_by}
use Rattle.locale_numbers_book.proofs.format_finding.find_amounts.Goals as goal

pub returns-clause-found : goal.returns-clause-found
returns-clause-found g c =
    let tables = c.args.tables.now in
    amounts_found_by (g.T.ParentProvider.next tables) (g.T.ParentProvider.limit tables) (g.T.DataProvider-1.table tables) (g.T.DataProvider-2.table tables) (g.T.Tables.book tables)
    (g.met.T.Tables.parents tables) (g.met.T.Tables.limits tables) (g.met.T.Tables.symbols tables) (g.met.T.Tables.digits tables)
    (g.T.DataProvider-7.table tables) (g.T.DataProvider-8.table tables) (g.T.DataProvider-9.table tables) (g.T.DataProvider-10.table tables)
    c.args.preferences c.args.currency.code c.options_of.result (amount_options c.args.currency c.args.grouping) _
    (g.met.T.Tables.currencies tables) (g.met.T.Tables.accounts tables) (g.met.T.Tables.currency_symbols tables) (g.met.T.Tables.fractions tables)
    c.options_of.ensures c.try_new_unstable.ensures.found
