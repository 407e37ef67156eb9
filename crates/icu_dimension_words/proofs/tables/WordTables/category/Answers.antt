use Rattle.std.proofs.Common.{◌∙◌, ap}
use Rattle.icu_decimal_plurals.specs.Rules.{category_of}
use Rattle.icu_dimension_words.specs.WordsText.{category_in}
use Rattle.icu_dimension_words.proofs.tables.WordTables.category.Goals as goal

pub returns : goal.returns
returns c =
    c.category_for.ensures ∙ ap (category_of c.args.self.now.rules.now) c.from_significand_and_exponent-operands.ensures
    ∙ ap (category_in c.args.self.now.rules.now) c.value.view_is
