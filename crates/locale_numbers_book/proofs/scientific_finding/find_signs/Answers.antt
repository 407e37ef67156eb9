use Rattle.locale_numbers_book.proofs.ProviderLemmas.{signs_found_by}
use Rattle.locale_numbers_book.proofs.scientific_finding.find_signs.Goals as goal

pub returns : goal.returns
returns g c =
    let tables = c.args.tables.now in
    signs_found_by (g.T.ParentProvider.next tables) (g.T.ParentProvider.limit tables) (g.T.DataProvider-13.table tables) (g.T.Tables.book tables) c.args.preferences _
    (g.met.T.Tables.parents tables) (g.met.T.Tables.limits tables) (g.met.T.Tables.signs tables) c.load_number_signs.ensures
