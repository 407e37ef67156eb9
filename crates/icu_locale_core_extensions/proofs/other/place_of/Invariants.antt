use Rattle.std.proofs.Common.{◌≡◌, ◌++◌, List, take, drop}
use Rattle.icu_locale_core_grammar.specs.Subtags.{Text}
use Rattle.icu_locale_core_grammar.specs.Collections.{put_first}
use Rattle.icu_locale_core_extensions.proofs.other.place_of.Given as goal

abbrev pub invariant-loop-index : goal.invariant-loop-index
invariant-loop-index l = (own : List Text) → put_first (l.singleton, own) l.others ≡ take l.index l.others ++ put_first (l.singleton, own) (drop l.index l.others)
