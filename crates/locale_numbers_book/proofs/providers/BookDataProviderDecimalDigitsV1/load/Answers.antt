use Rattle.std.proofs.Common.{◌≡◌, true, refl, ap, ◌∙◌}
use Rattle.icu_locale_core.specs.DataLocales.{unknown_data}
use Rattle.icu_decimal.specs.Choice.{answered}
use Rattle.locale_numbers_tables.specs.Keys.{same_data_locale}
use Rattle.locale_numbers_tables.proofs.KeyLemmas.{same_data_locales}
use Rattle.locale_numbers_book.proofs.providers.BookDataProviderDecimalDigitsV1.load.Goals as goal

pub returns : goal.returns
returns c =
    let same : same_data_locale c.id.inside.locale unknown_data ≡ true =
    (same_data_locales c.id.inside.locale unknown_data).1 (c.if-not-is_unknown.ensures.0 refl) in
    rw (← c.self.view_is, ← c.id.view_is, same) (c.found.ensures ∙ ap answered c.get.ensures.value)
