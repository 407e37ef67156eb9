use Rattle.icu_decimal_chains.specs.Chains.{chain}
use Rattle.locale_numbers_book.proofs.ProviderLemmas.{plain_found_by}
use Rattle.locale_numbers_book.proofs.format_finding.find_plain.Goals as goal

pub returns : goal.returns
returns g c =
    let tables = c.args.tables.now in
    plain_found_by (chain (g.T.ParentProvider.next tables) (g.T.ParentProvider.limit tables)) (g.T.DataProvider-1.table tables) (g.T.DataProvider-2.table tables) (g.T.Tables.book tables) c.args.preferences c.args.grouping
    (g.met.T.Tables.chains tables) (g.met.T.Tables.symbols tables) (g.met.T.Tables.digits tables) c.from.result _ c.from.ensures c.try_new_unstable.ensures
