use Rattle.std.proofs.Common.{sym, ap, ◌∙◌}
use Rattle.icu_decimal.specs.Choice.{answered}
use Rattle.locale_numbers_tables.specs.Keys.{same_key, table_at}
use Rattle.locale_numbers_book.specs.Book.{BookTables}
use Rattle.locale_numbers_book.proofs.UnitLemmas.{of_part, without_part}
use Rattle.locale_numbers_book.proofs.unit_providers.BookDataProviderPercentEssentialsV1.load.Goals as goal

pub returns-in-Some : goal.returns-in-Some
returns-in-Some c =
    let held = sym (ap (λ (b : BookTables). b.units) c.self.view_is) ∙ c.in-Some.is in
    of_part (λ units. table_at same_key c.args.id.now units.percents) c.args.self.now.units _ _ held (c.found.ensures ∙ ap answered c.percent.ensures)

pub returns-in-None : goal.returns-in-None
returns-in-None c =
    let held = sym (ap (λ (b : BookTables). b.units) c.self.view_is) ∙ c.in-None.is in
    without_part (λ units. table_at same_key c.args.id.now units.percents) c.args.self.now.units held
