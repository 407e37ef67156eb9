use Rattle.locale_numbers_book.specs.FoundFormats.{percent_options}
use Rattle.locale_numbers_book.proofs.ProviderLemmas.{percents_found_by}
use Rattle.locale_numbers_book.proofs.format_finding.find_percents.Goals as goal

pub returns-clause-found : goal.returns-clause-found
returns-clause-found g c =
    let tables = c.args.tables.now in
    percents_found_by (g.T.ParentProvider.next tables) (g.T.ParentProvider.limit tables) (g.T.DataProvider-1.table tables) (g.T.DataProvider-2.table tables) (g.T.Tables.book tables)
    (g.met.T.Tables.parents tables) (g.met.T.Tables.limits tables) (g.met.T.Tables.symbols tables) (g.met.T.Tables.digits tables)
    (g.T.DataProvider-6.table tables) c.args.preferences (percent_options c.args.sign c.args.grouping) _ (g.met.T.Tables.percents tables) c.try_new_unstable.ensures.found
