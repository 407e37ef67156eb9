use Rattle.std.proofs.Common.{Some, ap, ◌∙◌}
use Rattle.icu_decimal.specs.Identifiers.{Identifier}
use Rattle.locale_numbers_book.proofs.FoundLocaleLemmas.{key_found, key_locale}
use Rattle.locale_numbers_book.proofs.found_locale.BookDataProviderSymbolsLocaleV1.load.Goals as goal

pub returns-in-Some : goal.returns-in-Some
returns-in-Some c = rw (← c.self.view_is)
    (ap (λ (key : Identifier). key_locale (Some key)) c.key.view_is ∙ ap key_locale c.in-Some.ensures.key ∙ key_found c.args.id.now c.self.inside.symbols.map.entries)

pub returns-in-None : goal.returns-in-None
returns-in-None c = rw (← c.self.view_is) (ap key_locale c.in-None.ensures.key ∙ key_found c.args.id.now c.self.inside.symbols.map.entries)
