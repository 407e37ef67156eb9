use Rattle.locale_numbers.specs.FormatterKeys.{finds}
use Rattle.locale_numbers.proofs.AnsweringLemmas.{one_of}
use Rattle.locale_numbers.proofs.KeptAnswersLemmas.{used_for_nothing}
use Rattle.locale_numbers.proofs.KeptLemmas.{first_key}
use Rattle.locale_numbers.proofs.cached_formatters.CachedFormattersFormatters.found.Goals as goal

pub returns-clause-again : goal.returns-clause-again
returns-clause-again g c =
    let book = g.T.Tables.book c.args.self.now.maker.tables.now in
    used_for_nothing book c.args._key.now c.args.self.now.formatters (c.latest_of.ensures.again (finds book) c.args._key.now (first_key c.args.self.now.formatters _ _ c.requires.first))

pub returns-clause-held : goal.returns-clause-held
returns-clause-held g c = λ kept is. one_of _ _ _ is (c.latest_of.ensures.held c.args._key.now (first_key c.args.self.now.formatters _ _ c.requires.first))
