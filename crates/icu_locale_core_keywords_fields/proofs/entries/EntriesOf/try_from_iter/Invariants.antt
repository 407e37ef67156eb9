use Rattle.std.proofs.Common.{◌≡◌}
use Rattle.icu_locale_core_grammar.specs.Collections.{map_of}
use Rattle.icu_locale_core_keywords_fields.proofs.entries.EntriesOf.try_from_iter.Given as goal

abbrev pub invariant-loop-key : goal.invariant-loop-key
invariant-loop-key g l = l.map ≡ map_of l.yielded
