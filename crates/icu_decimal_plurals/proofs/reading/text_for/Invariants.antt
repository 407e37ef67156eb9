use Rattle.std.proofs.Common.{◌≡◌, ◌++◌, drop, option_map, option_to_list}
use Rattle.icu_decimal_plurals.specs.Reading.{pairs_of, texts_for}
use Rattle.icu_decimal_plurals.proofs.reading.text_for.Given as goal

abbrev pub invariant-loop-other : goal.invariant-loop-other
invariant-loop-other l = texts_for l.category (pairs_of l.given) ≡ option_to_list (option_map (λ text. text.now) l.found) ++ texts_for l.category (pairs_of (drop l.other-index l.given))
