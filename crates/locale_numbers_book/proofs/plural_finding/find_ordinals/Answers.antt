use Rattle.icu_decimal_chains.specs.Chains.{chain}
use Rattle.locale_numbers_book.specs.Tables.{chain_in, ordinals_under}
use Rattle.locale_numbers_book.proofs.RulesFound.{there_with_unknown}
use Rattle.locale_numbers_book.proofs.plural_finding.find_ordinals.Goals as goal

pub returns-in-Ok : goal.returns-in-Ok
returns-in-Ok g c =
    let tables = c.args.tables.now in
    there_with_unknown (g.T.DataProvider-11.table tables) (ordinals_under (g.T.Tables.book tables)) (g.met.T.Tables.ordinals tables)
    (chain (g.T.ParentProvider.next tables) (g.T.ParentProvider.limit tables) c.args.locale.now) (chain_in (g.T.Tables.book tables) c.args.locale.now) _ (g.met.T.Tables.chains tables c.args.locale.now) c.in-Ok.ensures

pub returns-in-Err : goal.returns-in-Err
returns-in-Err g c =
    let tables = c.args.tables.now in
    there_with_unknown (g.T.DataProvider-11.table tables) (ordinals_under (g.T.Tables.book tables)) (g.met.T.Tables.ordinals tables)
    (chain (g.T.ParentProvider.next tables) (g.T.ParentProvider.limit tables) c.args.locale.now) (chain_in (g.T.Tables.book tables) c.args.locale.now) _ (g.met.T.Tables.chains tables c.args.locale.now) c.in-Err.ensures
