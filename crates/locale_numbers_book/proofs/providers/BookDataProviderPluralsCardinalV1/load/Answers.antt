use Rattle.std.proofs.Common.{◌≡◌, ◌==◌, length, true, sym, ap, ◌∙◌}
use Rattle.icu_decimal.specs.Choice.{answered}
use Rattle.locale_numbers_book.proofs.providers.BookDataProviderPluralsCardinalV1.load.Goals as goal

pub returns : goal.returns
returns c =
    let bare : (length c.id.inside.attributes == 0) ≡ true = sym c.if-not-is_empty.ensures in
    rw (← c.self.view_is, ← c.id.view_is, bare) (c.found.ensures ∙ ap answered c.get.ensures.value)
