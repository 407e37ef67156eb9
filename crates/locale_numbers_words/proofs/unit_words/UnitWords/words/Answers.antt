use Rattle.std.proofs.Common.{ap}
use Rattle.locale_numbers_words.specs.Entries.{UnitTexts}
use Rattle.locale_numbers_words.proofs.FoundLemmas.{alone_words}
use Rattle.locale_numbers_words.proofs.unit_words.UnitWords.words.Goals as goal

pub returns-in-Ok : goal.returns-in-Ok
returns-in-Ok c =
    alone_words c.plural_words.result c.empty-outer.result c.in-Ok.made c.self.inside.words c.args.self.now.words
    c.plural_words.ensures c.in-Ok.ensures c.empty-outer.ensures (ap (λ (unit : UnitTexts). unit.words) c.self.view_is)
