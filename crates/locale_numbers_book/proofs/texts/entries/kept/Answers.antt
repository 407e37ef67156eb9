use Rattle.std.proofs.Common.{map, string_bytes, rules, tests}
use Rattle.std.proofs.lemmas.Iterator.Consumers.{YieldsList-from_filter, map_from_collect}
use Rattle.std.proofs.lemmas.Iterator.Splits.{YieldsList-from_lines}
use Rattle.locale_numbers_book.specs.EntryFields.{begins}
use Rattle.locale_numbers_book.proofs.texts.entries.kept.Goals as goal

pub returns : goal.returns
returns c =
    map_from_collect _ c.collect.ensures.ran
    (YieldsList-from_filter _ (begins (map string_bytes c.args.openings.now)) (YieldsList-from_lines c.args.text.now cc) c.filter.ensures.closure (λ x r q k. search (rules, tests)))
