use Rattle.std.proofs.Common.{ap}
use Rattle.std.specs.Result.{result_ok}
use Rattle.locale_numbers_book.proofs.ProviderLemmas.{amounts_found_by}
use Rattle.locale_numbers_word_book.specs.WordFormats.{amount_options}
use Rattle.locale_numbers_word_book.proofs.format_finding.find_amounts.Goals as goal

pub returns-in-Ok : goal.returns-in-Ok
returns-in-Ok g c =
    let tables = c.args.tables.now in
    ap result_ok (amounts_found_by (g.T.ParentProvider.next tables) (g.T.ParentProvider.limit tables) (g.T.DataProvider-1.table tables) (g.T.DataProvider-2.table tables) (g.T.Tables.book tables)
    (g.met.T.Tables.parents tables) (g.met.T.Tables.limits tables) (g.met.T.Tables.symbols tables) (g.met.T.Tables.digits tables)
    (g.T.DataProvider-7.table tables) (g.T.DataProvider-8.table tables) (g.T.DataProvider-9.table tables) (g.T.DataProvider-10.table tables)
    c.args.preferences.now c.args.code c.amount_options.result (amount_options c.args.grouping) _
    (g.met.T.Tables.currencies tables) (g.met.T.Tables.accounts tables) (g.met.T.Tables.currency_symbols tables) (g.met.T.Tables.fractions tables)
    c.amount_options.ensures c.in-Ok.ensures.found)

pub returns-in-Err : goal.returns-in-Err
returns-in-Err g c =
    let tables = c.args.tables.now in
    ap result_ok (amounts_found_by (g.T.ParentProvider.next tables) (g.T.ParentProvider.limit tables) (g.T.DataProvider-1.table tables) (g.T.DataProvider-2.table tables) (g.T.Tables.book tables)
    (g.met.T.Tables.parents tables) (g.met.T.Tables.limits tables) (g.met.T.Tables.symbols tables) (g.met.T.Tables.digits tables)
    (g.T.DataProvider-7.table tables) (g.T.DataProvider-8.table tables) (g.T.DataProvider-9.table tables) (g.T.DataProvider-10.table tables)
    c.args.preferences.now c.args.code c.amount_options.result (amount_options c.args.grouping) _
    (g.met.T.Tables.currencies tables) (g.met.T.Tables.accounts tables) (g.met.T.Tables.currency_symbols tables) (g.met.T.Tables.fractions tables)
    c.amount_options.ensures c.in-Err.ensures.found)
