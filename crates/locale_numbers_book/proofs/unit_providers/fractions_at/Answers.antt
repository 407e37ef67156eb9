use Rattle.std.proofs.Common.{◌≡◌, true, refl}
use Rattle.icu_locale_core.specs.DataLocales.{unknown_data}
use Rattle.locale_numbers_tables.specs.Keys.{same_data_locale}
use Rattle.locale_numbers_tables.proofs.KeyLemmas.{same_data_locales}
use Rattle.locale_numbers_book.proofs.unit_providers.fractions_at.Goals as goal

pub returns : goal.returns
returns c =
    let same : same_data_locale c.id.inside.locale unknown_data ≡ true =
    (same_data_locales c.id.inside.locale unknown_data).1 (c.if-not-is_unknown.ensures.0 refl) in
    rw (← c.id.view_is, same) c.digits.ensures
