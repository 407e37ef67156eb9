use Rattle.std.proofs.Common.{◌≡◌, ◌+◌, drop}
use Rattle.icu_locale_core_grammar.specs.NormalText.{before_transform}
use Rattle.icu_locale_core_extensions.proofs.extensions_writing.before_transform.Given as goal

abbrev pub invariant-loop-index : goal.invariant-loop-index
invariant-loop-index l = before_transform l.others ≡ l.index + before_transform (drop l.index l.others)
