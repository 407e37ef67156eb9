use Rattle.std.proofs.Common.{ap}
use Rattle.std.specs.Result.{result_ok}
use Rattle.icu_decimal.specs.Chains.{chain}
use Rattle.locale_numbers_book.proofs.ProviderLemmas.{plain_found_by}
use Rattle.locale_numbers_word_book.proofs.format_finding.find_decimals.Goals as goal

pub returns-in-Ok : goal.returns-in-Ok
returns-in-Ok g c =
    let tables = c.args.tables.now in
    ap result_ok (plain_found_by (chain (g.T.ParentProvider.next tables) (g.T.ParentProvider.limit tables)) (g.T.DataProvider-1.table tables) (g.T.DataProvider-2.table tables) (g.T.Tables.book tables) c.args.preferences.now c.args.grouping
    (g.met.T.Tables.chains tables) (g.met.T.Tables.symbols tables) (g.met.T.Tables.digits tables) c.from-options.result _ c.from-options.ensures c.in-Ok.ensures)

pub returns-in-Err : goal.returns-in-Err
returns-in-Err g c =
    let tables = c.args.tables.now in
    ap result_ok (plain_found_by (chain (g.T.ParentProvider.next tables) (g.T.ParentProvider.limit tables)) (g.T.DataProvider-1.table tables) (g.T.DataProvider-2.table tables) (g.T.Tables.book tables) c.args.preferences.now c.args.grouping
    (g.met.T.Tables.chains tables) (g.met.T.Tables.symbols tables) (g.met.T.Tables.digits tables) c.from-options.result _ c.from-options.ensures c.in-Err.ensures)
