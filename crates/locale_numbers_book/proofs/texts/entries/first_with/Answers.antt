use Rattle.std.proofs.Common.{nat_eq, rules, tests}
use Rattle.std.specs.List.{starts_with}
use Rattle.std.proofs.lemmas.Iterator.Search.{find_from_yields_List}
use Rattle.std.proofs.lemmas.Iterator.Splits.{YieldsList-from_lines}
use Rattle.locale_numbers_book.proofs.texts.entries.first_with.Goals as goal

pub returns : goal.returns
returns c =
    find_from_yields_List (λ line. starts_with nat_eq line c.args.front.now) _ _ _ c.find.ensures.ran (YieldsList-from_lines c.args.text.now c.lines.ensures.rest) (λ x b q k. search (rules, tests))
