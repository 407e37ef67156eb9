use Rattle.std.proofs.Common.{ap, ◌∙◌}
use Rattle.icu_decimal.specs.Choice.{answered}
use Rattle.locale_numbers_book.proofs.sign_providers.BookDataProviderNumberSignsV1.load.Goals as goal

pub returns : goal.returns
returns c = rw (← c.self.view_is) (c.found.ensures ∙ ap answered c.get.ensures.value)
