use Rattle.std.proofs.Common.{sym, ap, ◌∙◌}
use Rattle.icu_decimal.specs.Choice.{answered}
use Rattle.locale_numbers_book.specs.Book.{BookTables}
use Rattle.locale_numbers_book.specs.Tables.{ordinals_there}
use Rattle.locale_numbers_book.proofs.UnitLemmas.{of_part, without_part}
use Rattle.locale_numbers_book.proofs.plural_providers.BookDataProviderPluralsOrdinalV1.load.Goals as goal

pub returns-in-Some : goal.returns-in-Some
returns-in-Some c =
    let held = sym (ap (λ (b : BookTables). b.plurals) c.self.view_is) ∙ c.in-Some.is in
    of_part (λ plurals. ordinals_there plurals c.args.id.now) c.args.self.now.plurals _ _ held (c.found.ensures ∙ ap answered c.ordinals_at.ensures)

pub returns-in-None : goal.returns-in-None
returns-in-None c =
    let held = sym (ap (λ (b : BookTables). b.plurals) c.self.view_is) ∙ c.in-None.is in
    without_part (λ plurals. ordinals_there plurals c.args.id.now) c.args.self.now.plurals held
